-- How calls change the tables, and what they answer.
use Rattle.std.specs.Prelude.{◌≡◌, ◌≢◌, ◌⊎◌, ℕ, ◌+◌, ◌≤◌, Bool, true, false, List, length, Option}
use Rattle.std.specs.Prelude.{Some, None, IfSome, IsSomeAnd}
use Rattle.std.specs.List.{list_any}
use Rattle.fx_base.specs.Telling.{Stays}
use Rattle.fx_types.specs.Values.{Data}
use Rattle.fx_types.specs.declared.aggregates.Totals.{Totals}
use Rattle.fx_core.specs.declared.schema.Column.{Column}
use Rattle.fx_core.specs.declared.schema.Schema.{Schema}
use Rattle.row_queries.specs.Queries.{IsCounted, IsScanned, IsTotalled}
use Rattle.row_queries.specs.TableRows.{rows_at}
use Rattle.row_queries.specs.declared.queries.Query.{Query}
use Rattle.row_queries.specs.declared.rows.RowList.{RowList}
use Rattle.row_keeper.specs.RowRules.{rule_of}
use Rattle.row_keeper.specs.Tables.{Tables, filled_tables, has_id, rows_of_tables, state_at}
use Rattle.row_keeper.specs.Tables.{with_cells, with_row, with_state, without_row}
use Rattle.row_keeper.specs.declared.rows.Put.{Put}
use Rattle.row_keeper.specs.declared.rows.Put.TheVariants.{Id, NoRow, Refused}
use Rattle.row_keeper.specs.declared.rows.RowRule.{RowRule}
use Rattle.row_keeper.specs.declared.rows.RowRule.TheVariants.{Required, Unique, Size, Full}

-- ---- the tables, where they are told

-- another schema is kept, and nothing changes; or none or this one is, and the tables become those
-- of the schema, which is kept from then on
abbrev pub Shapes : Schema → Option Schema → Tables → Tables → Type 0
Shapes schema (Some other) a b = (a.kept ≡ Some other) × (other ≢ schema) × (b ≡ a)
Shapes schema None a b = IfSome a.kept (λ s. s ≡ schema)
    × (b ≡ record { kept = Some schema; states = filled_tables schema.tables a.states })

-- nothing changes, or the tables have become those of the schema
abbrev pub StaysOrShapes : Schema → Tables → Tables → Type 0
StaysOrShapes schema a b = Stays a b ⊎ Shapes schema None a b

-- a new row gets the next number, or is refused by the first rule that it breaks
abbrev pub Inserts : List Column → ℕ → List Data → Put → Tables → Tables → Type 0
Inserts columns table cells (Id id) a b =
    (rule_of columns a.states table None cells ≡ None) × (id ≡ (state_at a.states table).last + 1)
    × (b ≡ with_state a table (with_row cells (state_at a.states table)))
Inserts columns table cells (Refused r) a b = (rule_of columns a.states table None cells ≡ Some r)
    × (b ≡ a)
Inserts columns table cells NoRow a b = ⊥

-- a row gets these cells, or there is none of this number, or they are refused by the first rule
-- that they break
abbrev pub Replaces : List Column → ℕ → ℕ → List Data → Put → Tables → Tables → Type 0
Replaces columns table id cells (Id n) a b =
    (n ≡ id) × (list_any (has_id id) (state_at a.states table).rows ≡ true)
    × (rule_of columns a.states table (Some id) cells ≡ None)
    × (b ≡ with_state a table (with_cells id cells (state_at a.states table)))
Replaces columns table id cells NoRow a b = (list_any (has_id id) (state_at a.states table).rows
    ≡ false) × (b ≡ a)
Replaces columns table id cells (Refused r) a b =
    (list_any (has_id id) (state_at a.states table).rows ≡ true)
    × (rule_of columns a.states table (Some id) cells ≡ Some r) × (b ≡ a)

-- a row was there, and is taken out; or there was none, and nothing changes
abbrev pub Removes : ℕ → ℕ → Bool → Tables → Tables → Type 0
Removes table id true a b = (list_any (has_id id) (state_at a.states table).rows ≡ true)
    × (b ≡ with_state a table (without_row id (state_at a.states table)))
Removes table id false a b = (list_any (has_id id) (state_at a.states table).rows ≡ false) × (b ≡ a)

-- this is what a query gives, and nothing changes
abbrev pub Scans : Query → RowList → Tables → Tables → Type 0
Scans q answer a b = IsScanned q (rows_at (rows_of_tables a.states) q.table) answer × (b ≡ a)

abbrev pub CountsQuery : Query → ℕ → Tables → Tables → Type 0
CountsQuery q n a b = IsCounted q (rows_at (rows_of_tables a.states) q.table) n × (b ≡ a)

abbrev pub TotalsUp : Query → ℕ → Totals → Tables → Tables → Type 0
TotalsUp q column totals a b = IsTotalled q (rows_at (rows_of_tables a.states) q.table) column
    totals × (b ≡ a)

-- ---- the answers, told or not

-- `required` and `unique` name a column other than `ID`, and the other rules none
abbrev pub NamesItsColumn : List Column → RowRule → Option ℕ → Type 0
NamesItsColumn columns Required column = IsSomeAnd column (λ k. (1 ≤ k) × (k ≤ length columns))
NamesItsColumn columns Unique column = IsSomeAnd column (λ k. (1 ≤ k) × (k ≤ length columns))
NamesItsColumn columns Size column = column ≡ None
NamesItsColumn columns Full column = column ≡ None

-- what may be said of a new row: a number from 1, or a rule
abbrev pub IsInserted : List Column → Put → Type 0
IsInserted columns (Id id) = 1 ≤ id
IsInserted columns NoRow = ⊥
IsInserted columns (Refused r) = NamesItsColumn columns r.rule r.column

-- what may be said of a row that is to change: its number, that there is none, or a rule
abbrev pub IsReplaced : List Column → ℕ → Put → Type 0
IsReplaced columns id (Id n) = n ≡ id
IsReplaced columns id NoRow = Unit {0}
IsReplaced columns id (Refused r) = NamesItsColumn columns r.rule r.column
