use Rattle.std.proofs.Common.{◌≡◌, ◌++◌, drop}
use Rattle.app_texts.specs.Places.{control_spots}
use Rattle.app_texts.proofs.places.put_controls.Given as goal

abbrev pub invariant-loop-control : goal.invariant-loop-control
invariant-loop-control l =
    (l.number ≡ l.control-index)
    × (l.spots.items ++ control_spots l.screen l.number (drop l.control-index l.controls) ≡ l.fn.spots.items ++ control_spots l.screen 0 l.controls)
