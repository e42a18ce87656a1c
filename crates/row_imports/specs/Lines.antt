-- Lines as they are put into a table that a keeper holds.
use Rattle.std.specs.Prelude.{◌≡◌, true, false, ℕ, zero, suc, ◌+◌, ◌<◌, ◌≤◌, List, [], ◌∷◌, length}
use Rattle.std.specs.Prelude.{Option, Some, None, Bool, Result, Ok, Err, slice_get, IfSome}
use Rattle.std.specs.Prelude.{IsSomeAnd}
use Rattle.std.specs.List.{list_any}
use Rattle.fx_types.specs.Values.{Data}
use Rattle.fx_types.specs.declared.comparisons.Cmp.TheVariants.{Eq}
use Rattle.fx_core.specs.declared.schema.Column.{Column}
use Rattle.fx_core.specs.declared.schema.TableShape.{TableShape}
use Rattle.fx_value.specs.Keys.{key_bytes}
use Rattle.row_queries.specs.Conditions.{compares}
use Rattle.row_queries.specs.declared.queries.Query.{Query}
use Rattle.row_queries.specs.declared.rows.Row.{Row}
use Rattle.row_keeper.specs.Changes.{NamesItsColumn}
use Rattle.row_keeper.specs.Rules.{FitsColumn, only_key}
use Rattle.row_keeper.specs.Tables.{Tables, has_id, state_at}
use Rattle.row_keeper.specs.declared.rows.Put.{Put}
use Rattle.row_keeper.specs.declared.rows.Put.TheVariants.{Id, NoRow, Refused}
use Rattle.row_keeper.specs.declared.rows.RowRefusal.{RowRefusal}
use Rattle.row_imports.specs.Imports.{given_for, import, keyed, one_more, put_line}
use Rattle.row_imports.specs.declared.imports.BrokenLine.{BrokenLine}
use Rattle.row_imports.specs.declared.imports.Counts.{Counts}
use Rattle.row_imports.specs.declared.lines.Acted.{Acted}
use Rattle.row_imports.specs.declared.lines.Acted.TheVariants.{Added, Changed, Broken}
use Rattle.row_imports.specs.declared.lines.Heading.{Heading}

-- ---- what lines need

-- the number of a unique column; `ID` is none
abbrev pub IsUniqueAt : List Column → ℕ → Type 0
IsUniqueAt columns zero = ⊥
IsUniqueAt columns (suc k) = IsSomeAnd (slice_get columns k) (λ (c : Column). c.unique ≡ true)

-- a scalar of the type of the column of this number
abbrev pub FitsNumber : List Column → ℕ → Data → Type 0
FitsNumber columns zero d = ⊥
FitsNumber columns (suc k) d = FitsColumn columns k d

-- lines go into this one of the tables, by the key of a unique column
pub record IsHeading (shapes : List TableShape) (t : TableShape) (h : Heading) : Type 0 where
  pub table : slice_get shapes h.table ≡ Some t
  pub narrow : length t.columns ≤ 63
  pub key : IsUniqueAt t.columns h.key

-- a line gives a key, and what it gives fits
pub record IsLineOf (columns : List Column) (h : Heading) (line : List Data) : Type 0 where
  pub key : IsSomeAnd (given_for h.columns line h.key) (FitsNumber columns h.key)
  pub fit : (k : ℕ) → k < length columns
      → IfSome (given_for h.columns line (suc k)) (λ d. FitsColumn columns k d)

-- ---- the row of a key

-- a value may be a key of the table of this number, in the unique column of this number
pub record CanSeek (shapes : List TableShape) (table key : ℕ) (d : Data) : Type 0 where
  pub shape : TableShape
  pub is_table : slice_get shapes table ≡ Some shape
  pub unique : IsUniqueAt shape.columns key
  pub fits : FitsNumber shape.columns key d

-- the first row of a key
abbrev pub one_keyed : ℕ → ℕ → Data → Query
one_keyed table key d = record {
  table = table;
  column = key;
  ranges = only_key (key_bytes d) ∷ [];
  test = compares Eq key d;
  order = None;
  take = Some 1;
}

-- this is the first row of a key, and nothing changes
abbrev pub FindsKeyed : ℕ → ℕ → Data → Option Row → Tables → Tables → Type 0
FindsKeyed table key d found a b = (found ≡ keyed key d (state_at a.states table).rows) × (b ≡ a)

-- ---- one line

-- what becomes of a line that is to act so, by what a keeper answers
abbrev pub acted : Put → Acted → Acted
acted (Refused r) done = Broken r
acted (Id id) done = done
acted NoRow done = done

-- a line acts, or breaks a rule and leaves the tables
abbrev pub LineComesTo : Result (Bool × Tables) RowRefusal → Acted → Tables → Tables → Type 0
LineComesTo r Added a b = r ≡ Ok (true, b)
LineComesTo r Changed a b = r ≡ Ok (false, b)
LineComesTo r (Broken refusal) a b = (r ≡ Err refusal) × (b ≡ a)

-- a line is put into a row that is there
abbrev pub ChangesLine : List Column → Heading → List Data → Row → Acted → Tables → Tables → Type 0
ChangesLine columns h line row c a b =
    list_any (has_id row.id) (state_at a.states h.table).rows ≡ true
    → LineComesTo (put_line columns h.table h.columns line a (Some row)) c a b

-- a line is put into a new row
abbrev pub AddsLine : List Column → Heading → List Data → Acted → Tables → Tables → Type 0
AddsLine columns h line c a b = LineComesTo (put_line columns h.table h.columns line a None) c a b

-- what may be said of a line, also where no tables are told: it acted, or a rule
abbrev pub IsActed : List Column → Acted → Type 0
IsActed columns (Broken r) = NamesItsColumn columns r.rule r.column
IsActed columns c = Unit {0}

-- ---- all lines

-- the counts with one line more, or the rule that it breaks
abbrev pub counted : Counts → Acted → Result Counts RowRefusal
counted c Added = Ok (one_more true c)
counted c Changed = Ok (one_more false c)
counted c (Broken r) = Err r

-- all lines act, or the first that breaks a rule says which; those before it have acted
abbrev pub ImportsLines : List Column → Heading → List (List Data) → Result Counts BrokenLine
    → Tables → Tables → Type 0
ImportsLines columns h lines (Ok c) a b
    = import columns h.table h.key h.columns 1 lines a ≡ Ok (c, b)
ImportsLines columns h lines (Err e) a b
    = import columns h.table h.key h.columns 1 lines a ≡ Err e

-- what may be said of so many lines, also where no tables are told: each added a row or changed
-- one, or one of them broke a rule
abbrev pub IsImported : List Column → ℕ → Result Counts BrokenLine → Type 0
IsImported columns n (Ok c) = c.added + c.changed ≡ n
IsImported columns n (Err e) = (1 ≤ e.at) × (e.at ≤ n)
    × NamesItsColumn columns e.refusal.rule e.refusal.column
