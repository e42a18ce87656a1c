-- The answers that are told by what holds of them: there is one at most.
use Rattle.std.specs.Prelude.{◌≡◌, Bool, List}
use Rattle.fx_types.specs.Values.{Data}
use Rattle.fx_tables.specs.AggregateCalls.{IsGreatestOf, IsLeastOf, IsSumOf}
use Rattle.fx_tables.specs.RowCalls.{IsCountIfOf, IsCountValue, IsSortOf}
use Rattle.fx_value.specs.Columns.{Row}

-- no two answers stand in a relation with the same thing
abbrev pub HasOneAnswer : {X : Type 0} → (X → Data → Type 0) → Type 0
HasOneAnswer {X = X} R = (x : X) (a b : Data) → R x a → R x b → a ≡ b

abbrev pub SumOnce : Type 0
SumOnce = HasOneAnswer IsSumOf

abbrev pub LeastOnce : Type 0
LeastOnce = HasOneAnswer IsLeastOf

abbrev pub GreatestOnce : Type 0
GreatestOnce = HasOneAnswer IsGreatestOf

abbrev pub CountOnce : Type 0
CountOnce = HasOneAnswer IsCountValue

abbrev pub CountIfOnce : Type 0
CountIfOnce = HasOneAnswer IsCountIfOf

abbrev pub SortOnce : Type 0
SortOnce = (down : Bool) (rows : List Row) → HasOneAnswer (IsSortOf down rows)
