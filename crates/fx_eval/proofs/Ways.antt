-- The pairs of types whose values are changed have coercions.
use Rattle.std.proofs.Common.{◌≡◌, Bool, true, false, Option, Some, None, refl, subst}
use Rattle.std.specs.Prelude.{if◌then◌else◌}
use Rattle.fx_types.specs.Types.{Shape, blanks, numbers, texts, booleans, dates, records, tables}
use Rattle.fx_typing.proofs.Same.{shape_same}
use Rattle.fx_typing.specs.Ways.{same, changed, refused, way, joined_way, widening, same_shape}
use Rattle.fx_value.specs.Coercion.{CanCoerce, HasCoercion, Widens, joined}
use Rattle.fx_value.specs.Coercion as coercion
use Rattle.fx_value.specs.Join.{join_of}

-- a type that another one widens to
widens : (s t : Shape) → widening s t ≡ changed → Widens s t
widens s t e = by (same_shape s t) (join_of s t) refl e
  where
    with_join : (b : Bool) (u : Shape) → same_shape u t ≡ b → join_of s t ≡ Some u → (if b then changed else refused) ≡ changed → Widens s t
    with_join true u p j e =
        let same_type : u ≡ t = shape_same u t p in
        joined s t t coercion.same (subst (λ (z : Shape). join_of s t ≡ Some z) same_type j)
    with_join false u p j e = absurd cc

    by : (b : Bool) (o : Option Shape) → join_of s t ≡ o → (if b then same else joined_way o t) ≡ changed → Widens s t
    by true o j e = absurd cc
    by false None j e = absurd cc
    by false (Some u) j e = with_join (same_shape u t) u refl j e

pub changed_coerces : (u to : Shape) → way u to ≡ changed → HasCoercion u to
changed_coerces blanks blanks e = absurd cc
changed_coerces blanks numbers e = tt
changed_coerces blanks texts e = tt
changed_coerces blanks booleans e = tt
changed_coerces blanks dates e = tt
changed_coerces blanks (records ds) e = tt
changed_coerces blanks (tables ds) e = tt
changed_coerces numbers blanks e = absurd cc
changed_coerces numbers numbers e = absurd cc
changed_coerces numbers texts e = tt
changed_coerces numbers booleans e = tt
changed_coerces numbers dates e = absurd cc
changed_coerces numbers (records ds) e = absurd cc
changed_coerces numbers (tables ds) e = absurd cc
changed_coerces texts blanks e = absurd cc
changed_coerces texts numbers e = tt
changed_coerces texts texts e = absurd cc
changed_coerces texts booleans e = absurd cc
changed_coerces texts dates e = absurd cc
changed_coerces texts (records ds) e = absurd cc
changed_coerces texts (tables ds) e = absurd cc
changed_coerces booleans blanks e = absurd cc
changed_coerces booleans numbers e = tt
changed_coerces booleans texts e = tt
changed_coerces booleans booleans e = absurd cc
changed_coerces booleans dates e = absurd cc
changed_coerces booleans (records ds) e = absurd cc
changed_coerces booleans (tables ds) e = absurd cc
changed_coerces dates blanks e = absurd cc
changed_coerces dates numbers e = absurd cc
changed_coerces dates texts e = tt
changed_coerces dates booleans e = absurd cc
changed_coerces dates dates e = absurd cc
changed_coerces dates (records ds) e = absurd cc
changed_coerces dates (tables ds) e = absurd cc
changed_coerces (records cs) blanks e = absurd cc
changed_coerces (records cs) numbers e = absurd cc
changed_coerces (records cs) texts e = absurd cc
changed_coerces (records cs) booleans e = absurd cc
changed_coerces (records cs) dates e = absurd cc
changed_coerces (records cs) (records ds) e = widens (records cs) (records ds) e
changed_coerces (records cs) (tables ds) e = absurd cc
changed_coerces (tables cs) blanks e = absurd cc
changed_coerces (tables cs) numbers e = absurd cc
changed_coerces (tables cs) texts e = absurd cc
changed_coerces (tables cs) booleans e = absurd cc
changed_coerces (tables cs) dates e = absurd cc
changed_coerces (tables cs) (records ds) e = absurd cc
changed_coerces (tables cs) (tables ds) e = widens (tables cs) (tables ds) e
