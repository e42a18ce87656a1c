use Rattle.std.proofs.Common.{◌≡◌, ◌++◌, drop}
use Rattle.app_texts.specs.Files.{screen_names}
use Rattle.app_texts.proofs.frames.names_of.Given as goal

abbrev pub invariant-loop-screen : goal.invariant-loop-screen
invariant-loop-screen l = l.names ++ screen_names (drop l.screen-index l.screens) ≡ screen_names l.screens
