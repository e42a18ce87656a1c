-- The numbers among values, and a number or blank as a value.
use Rattle.std.proofs.Common.{◌≡◌, ℤ, List, [], ◌∷◌, map, Option, Some, None, refl, ap}
use Rattle.std.specs.List.{cons_option}
use Rattle.fx_types.specs.ValueView.{view}
use Rattle.fx_types.specs.declared.values.Value.{Value}
use Rattle.fx_primitives.specs.Folds.{nonblank}
use Rattle.fx_tables.specs.AggregateCalls.{IsNumberOrBlank, number_or_blank}
use Rattle.fx_value.specs.Aggregates.{number_if_one, numbers_in}

pub present_numbers : (vs : List Value) → nonblank (map (λ v. number_if_one (view v)) vs) ≡ numbers_in (map view vs)
present_numbers [] = refl
present_numbers (v ∷ vs) = ap (cons_option (number_if_one (view v))) (present_numbers vs)

pub as_value : (P : Option ℤ → Type 0) (o : Option ℤ) → P o → IsNumberOrBlank P (number_or_blank o)
as_value P None h = h
as_value P (Some z) h = h
