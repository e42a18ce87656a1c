-- How the row of a number is found and changed.
use Rattle.std.specs.Prelude.{◌≡◌, ℕ, List, [], ◌∷◌, Option, Some, None, Ok, MatchOption}
use Rattle.std.specs.Prelude.{MatchResult, option_map, slice_get}
use Rattle.std.specs.List.{find}
use Rattle.fx_types.specs.declared.values.Value.{Value}
use Rattle.fx_types.specs.Values.{Data}
use Rattle.fx_types.specs.ValueView.{view}
use Rattle.fx_semantics.specs.Around.{record_of}
use Rattle.fx_semantics.specs.Rows.{rows_in}
use Rattle.fx_value.specs.Columns.{Row as Fields}
use Rattle.fx_tables.specs.Unions.{is_fault}
use Rattle.fx_core.specs.declared.schema.Column.{Column}
use Rattle.fx_core.specs.declared.schema.Schema.{Schema}
use Rattle.fx_core.specs.declared.schema.TableShape.{TableShape}
use Rattle.fx_core.specs.Lawful.{IsLawfulTable}
use Rattle.fx_core.specs.SourceTypes.{columns_of}
use Rattle.fx_typing.specs.LawfulTypes.{AreLawfulColumns}
use Rattle.row_keeper.specs.declared.rows.Put.{Put}
use Rattle.row_keeper.specs.declared.rows.Put.TheVariants.{Id, NoRow, Refused}
use Rattle.row_queries.specs.TableRows.{IsRowOf}
use Rattle.row_queries.specs.declared.rows.Row.{Row}
use Rattle.fx_deeds.specs.Changed.{IsRowChanged}
use Rattle.fx_deeds.specs.Deeds.{AnswersOnly, row_id_value, named_id, row_numbered}
use Rattle.fx_deeds.specs.Fitting.{AreOfSome}
use Rattle.fx_deeds.specs.RowValues.{cells_in, changed_cells, not_found, rule_error, values_among}
use Rattle.fx_deeds.specs.State.{WorldState}

-- the cells of the first of some records, if there is one
abbrev pub first_cells : List Column → List Fields → Option (List Data)
first_cells columns [] = None
first_cells columns (r ∷ rs) = Some (cells_in columns r)

-- the cells of the row of a number were found, if there is one, and nothing changed
abbrev pub FindsCells : {A : Type 0} → ℕ → ℕ → Option (List Data) → WorldState A → WorldState A
    → Type 0
FindsCells k id o s t = (t ≡ s) × (o ≡ option_map (λ (r : Row). r.cells) (row_numbered k id s))

-- the row of a number gets the cells that changes leave, if it is there
abbrev pub IsRowPatched : {A : Type 0} → TableShape → ℕ → List Fields → ℕ → List Data → Put
    → WorldState A → WorldState A → Type 0
IsRowPatched p k changes id cells put s t =
    MatchOption (row_numbered k id s) ((put ≡ NoRow) × (t ≡ s))
    (λ (r : Row). (cells ≡ changed_cells p.columns changes r.cells)
    × IsRowChanged p.columns k id cells put s t)

-- the shape of a table, which is lawful
abbrev pub IsShape : Schema → ℕ → TableShape → Type 0
IsShape schema k p = (slice_get schema.tables k ≡ Some p) × IsLawfulTable p

-- these changes have some columns of the table
abbrev pub CanPatchRows : TableShape → List Fields → Type 0
CanPatchRows p changes = AreLawfulColumns (columns_of p) × AreOfSome (columns_of p) changes

-- and no error is in their fields, so rows of the table can be changed so
abbrev pub CanChangeRows : TableShape → List Fields → Type 0
CanChangeRows p changes = CanPatchRows p changes × (find is_fault (values_among changes) ≡ None)

-- each of these changes can be made
abbrev pub CanChangeEach : TableShape → List Data → Type 0
CanChangeEach p [] = Unit {0}
CanChangeEach p (d ∷ ds) = CanChangeRows p (rows_in d) × CanChangeEach p ds

-- these cells under this number are a row of the table
abbrev pub IsRowAt : TableShape → ℕ → List Data → Type 0
IsRowAt p id cells = IsRowOf p (record { id = id; cells = cells })

-- where a row was kept, it is one of the table
abbrev pub IsPutOf : TableShape → List Data → Put → Type 0
IsPutOf p cells (Id id) = IsRowAt p id cells
IsPutOf p cells put = Unit {0}

-- why a row wasn't changed
abbrev pub IsRowStopped : TableShape → Put → Data → Type 0
IsRowStopped p (Id id) d = ⊥
IsRowStopped p NoRow d = d ≡ not_found
IsRowStopped p (Refused r) d = d ≡ rule_error p.columns r

-- what comes of a row that was to be changed: none where it was, and else why it wasn't
abbrev pub IsPutEnd : TableShape → Put → Option Value → Type 0
IsPutEnd p put None = (n : ℕ) × (put ≡ Id n)
IsPutEnd p put (Some e) = IsRowStopped p put (view e)

-- one row of `UpdateIf` was changed, or this is answered
abbrev pub IsUpdatedRow : {A : Type 0} → TableShape → ℕ → Fields → Data → Option Value
    → WorldState A → WorldState A → Type 0
IsUpdatedRow p k r c None s t =
    (id n : ℕ) × (cells : List Data) × (named_id (row_id_value (record_of r)) ≡ Ok id)
    × IsRowPatched p k (rows_in c) id cells (Id n) s t
IsUpdatedRow p k r c (Some e) s t =
    MatchResult (named_id (row_id_value (record_of r)))
    (λ id. (cells : List Data) × (put : Put) × IsRowPatched p k (rows_in c) id cells put s t
    × IsRowStopped p put (view e))
    (λ f. AnswersOnly f s (view e) t)
