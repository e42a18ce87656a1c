use Rattle.std.proofs.Common.{◌≡◌, drop}
use Rattle.std.specs.Prelude.{find}
use Rattle.app_texts.specs.Places.{has_address}
use Rattle.app_texts.proofs.places.spot_at.Given as goal

abbrev pub invariant-loop-spot : goal.invariant-loop-spot
invariant-loop-spot l = find (has_address l.frame l.address) (drop l.spot-index l.spots) ≡ find (has_address l.frame l.address) l.spots
