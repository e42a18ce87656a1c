use Rattle.std.proofs.Common.{◌≡◌, ◌++◌, drop}
use Rattle.app_names.specs.NameRules.{names_on_screen}
use Rattle.app_names.proofs.given_names.screen_names.Given as goal

abbrev pub invariant-loop-name : goal.invariant-loop-name
invariant-loop-name l = (l.screen ≡ l.name-index) × (l.names.items ++ names_on_screen l.frame l.screen (drop l.name-index l.frame.screens) ≡ names_on_screen l.frame 0 l.frame.screens)
