use Rattle.std.proofs.Common.{◌≡◌, ◌++◌, drop, map}
use Rattle.app_texts.proofs.FramePlaces.{as_property}
use Rattle.app_texts.proofs.places.put_properties.Given as goal

abbrev pub invariant-loop-property : goal.invariant-loop-property
invariant-loop-property l =
    l.spots.items ++ map (as_property l.number) (map (λ p. p.now) (drop l.property-index l.properties))
    ≡ l.fn.spots.items ++ map (as_property l.number) (map (λ p. p.now) l.properties)
