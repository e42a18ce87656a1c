use Rattle.std.proofs.Common.{◌≡◌, ◌++◌, drop}
use Rattle.app_texts.specs.Places.{screen_spots}
use Rattle.app_texts.proofs.places.put_screens.Given as goal

abbrev pub invariant-loop-name : goal.invariant-loop-name
invariant-loop-name l =
    (l.number ≡ l._name-index)
    × (l.spots.items ++ screen_spots l.controls l.number (drop l._name-index l.screens) ≡ l.fn.spots.items ++ screen_spots l.controls 0 l.screens)
