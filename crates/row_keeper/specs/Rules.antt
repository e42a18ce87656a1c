-- The rules of columns, as an index is asked for them.
use Rattle.std.specs.Prelude.{◌≡◌, true, false, ℕ, zero, suc, Bool, not, List, [], ◌∷◌, ◌++◌}
use Rattle.std.specs.Prelude.{Option, Some, None}
use Rattle.fx_types.specs.TypeView.{shape}
use Rattle.fx_types.specs.Values.{Data}
use Rattle.fx_core.specs.declared.schema.Column.{Column}
use Rattle.fx_value.specs.Order.{IsScalar}
use Rattle.fx_value.specs.Fits.{fits_in}
use Rattle.row_queries.specs.declared.ranges.KeyRange.{KeyRange}
use Rattle.row_queries.specs.declared.rows.Row.{Row}
use Rattle.row_keeper.specs.RowRules.{lacks, repeats}
use Rattle.row_keeper.specs.Tables.{has_id}
use Rattle.row_keeper.specs.declared.rows.RowRule.{RowRule}
use Rattle.row_keeper.specs.declared.rows.RowRule.TheVariants.{Required, Unique, Size, Full}

-- the range of one key alone
abbrev pub only_key : List ℕ → KeyRange
only_key key = record { from = key; upto = Some (key ++ 0 ∷ []) }

-- the row isn't the one of this number
abbrev pub is_other_row : Option ℕ → Row → Bool
is_other_row None r = true
is_other_row (Some id) r = not (has_id id r)

-- a scalar of the type of the column at a place
abbrev pub FitsColumn : List Column → ℕ → Data → Type 0
FitsColumn [] place d = ⊥
FitsColumn (c ∷ cs) zero d = IsScalar d × (fits_in d (shape c.ty) ≡ true)
FitsColumn (c ∷ cs) (suc place) d = FitsColumn cs place d

-- how a cell breaks a rule of columns, where these are the other rows
abbrev pub breaks_by : RowRule → List Row → Column → ℕ → Data → Bool
breaks_by Required rows = lacks
breaks_by Unique rows = repeats rows
breaks_by Size rows = λ c k d. false
breaks_by Full rows = λ c k d. false
