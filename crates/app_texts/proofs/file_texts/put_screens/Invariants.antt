use Rattle.std.proofs.Common.{◌≡◌, ◌+◌, ◌++◌, drop}
use Rattle.std.specs.List.{filter}
use Rattle.app_texts.specs.Files.{is_written, texts_of_screens}
use Rattle.app_texts.proofs.TextSteps.{count}
use Rattle.app_texts.proofs.file_texts.put_screens.Given as goal

abbrev pub invariant-loop-screen : goal.invariant-loop-screen
invariant-loop-screen l =
    (l.number ≡ l.screen-index) × (l.first + count (drop l.screen-index l.screens) ≡ count l.screens)
    × (l.texts.items ++ filter is_written (texts_of_screens l.number l.first (drop l.screen-index l.screens)) ≡ l.fn.texts.items ++ filter is_written (texts_of_screens 0 0 l.screens))
