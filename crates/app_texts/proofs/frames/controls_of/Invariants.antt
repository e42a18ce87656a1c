use Rattle.std.proofs.Common.{◌≡◌, ◌+◌, ◌++◌, drop}
use Rattle.app_texts.specs.Files.{controls_from}
use Rattle.app_texts.proofs.TextSteps.{count}
use Rattle.app_texts.proofs.frames.controls_of.Given as goal

abbrev pub invariant-loop-screen : goal.invariant-loop-screen
invariant-loop-screen l =
    (l.number ≡ l.screen-index) × (l.first + count (drop l.screen-index l.screens) ≡ count l.screens)
    × (l.controls ++ controls_from l.number l.first (drop l.screen-index l.screens) ≡ controls_from 0 0 l.screens)
