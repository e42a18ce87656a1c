-- What is left to do.
use Rattle.std.specs.Prelude.{◌≡◌, ◌≢◌, List, [], ◌∷◌, map, Option, Some, None}
use Rattle.fx_types.specs.declared.values.Value.{Value}
use Rattle.fx_types.specs.Types.{ColumnList, no_columns}
use Rattle.fx_types.specs.Values.{Data}
use Rattle.fx_types.specs.ValueView.{view}
use Rattle.fx_semantics.specs.Around.{record_of}
use Rattle.fx_semantics.specs.Rows.{rows_in}
use Rattle.fx_value.specs.Columns.{Row}
use Rattle.fx_deeds.specs.RowValues.{changed_row, record_row}
use Rattle.fx_deeds.specs.State.{WorldState}

-- what is left to do decides of the whole
abbrev pub RestDecides : {A : Type 0} → (WorldState A → Data → WorldState A → Type 0)
    → (WorldState A → Data → WorldState A → Type 0) → WorldState A → WorldState A → Type 0
RestDecides {A} R W s m = (x : Data) (t : WorldState A) → R m x t → W s x t

-- records as rows
abbrev pub record_rows : List Value → List Row
record_rows vs = map (λ v. record_row no_columns (view v)) vs

-- these values are records
abbrev pub AreRecords : List Value → Type 0
AreRecords vs = map view vs ≡ map record_of (record_rows vs)

-- the first of these is this one
abbrev pub IsFirstValue : List Value → Value → Type 0
IsFirstValue [] v = ⊥
IsFirstValue (w ∷ ws) v = view w ≡ view v

-- those behind the first
abbrev pub values_behind : List Value → List Value
values_behind [] = []
values_behind (w ∷ ws) = ws

-- a row as its change leaves it, where it is the first of those that were kept
abbrev pub IsChangedFirst : ColumnList → Row → List Row → List Data → Option Row → Type 0
IsChangedFirst cs r (q ∷ qs) (d ∷ ds) None = q ≢ r
IsChangedFirst cs r (q ∷ qs) (d ∷ ds) (Some made) = (q ≡ r) × (made ≡ changed_row cs (rows_in d) r)
IsChangedFirst cs r kept changes None = Unit {0}
IsChangedFirst cs r kept changes (Some made) = ⊥
