-- Lines put into a table: each changes the row of its key, or adds one.
use Rattle.std.specs.Prelude.{ℕ, ◌+◌, ◌==◌, Bool, true, false, List, [], ◌∷◌, map, Option, Some}
use Rattle.std.specs.Prelude.{None}
use Rattle.std.specs.Prelude.{is_none, option_and_then, option_map, slice_get, unwrap_or, Result}
use Rattle.std.specs.Prelude.{Ok, Err}
use Rattle.std.specs.List.{find, position}
use Rattle.fx_types.specs.Values.{Data, blank}
use Rattle.fx_core.specs.declared.schema.Column.{Column}
use Rattle.row_queries.specs.declared.rows.Row.{Row}
use Rattle.row_keeper.specs.RowRules.{has_value, rule_of}
use Rattle.row_keeper.specs.Tables.{TableState, Tables, state_at, with_cells, with_row, with_state}
use Rattle.row_keeper.specs.declared.rows.RowRefusal.{RowRefusal}
use Rattle.row_imports.specs.declared.imports.BrokenLine.{BrokenLine}
use Rattle.row_imports.specs.declared.imports.Counts.{Counts}

-- ---- what a line gives

-- the value of a line for the column of this number, where it is one of those that are named
abbrev pub given_for : List ℕ → List Data → ℕ → Option Data
given_for numbers line k = option_and_then (slice_get line) (position (λ n. n == k) numbers)

-- cells of the columns from this number on, with what a line gives
abbrev pub with_given : List ℕ → List Data → ℕ → List Data → List Data
with_given numbers line k [] = []
with_given numbers line k (d ∷ ds) = unwrap_or (given_for numbers line k) d
    ∷ with_given numbers line (k + 1) ds

abbrev pub key_of : List ℕ → ℕ → List Data → Data
key_of numbers key line = unwrap_or (given_for numbers line key) blank

-- ---- one line

-- the first row with this key
abbrev pub keyed : ℕ → Data → List Row → Option Row
keyed key d rows = find (has_value key d) rows

-- blank cells, one for each column
abbrev pub blanks : List Column → List Data
blanks columns = map (λ (c : Column). blank) columns

-- the cells that a line leaves: those that were there, or blank ones, with what it gives
abbrev pub line_cells : List Column → List ℕ → List Data → Option Row → List Data
line_cells columns numbers line None = with_given numbers line 1 (blanks columns)
line_cells columns numbers line (Some r) = with_given numbers line 1 r.cells

-- cells in the row that was found, or in a new one
abbrev pub put_cells : List Data → Option Row → TableState → TableState
put_cells cells None s = with_row cells s
put_cells cells (Some r) s = with_cells r.id cells s

abbrev pub unless_broken : {A : Type 0} → Option RowRefusal → A → Result A RowRefusal
unless_broken None a = Ok a
unless_broken (Some r) a = Err r

-- a line whose key this row has: whether a row is added, and the tables then, or the rule that
-- breaks
abbrev pub put_line : List Column → ℕ → List ℕ → List Data → Tables → Option Row
    → Result (Bool × Tables) RowRefusal
put_line columns table numbers line t found =
    let cells = line_cells columns numbers line found in
    unless_broken (rule_of columns t.states table (option_map (λ (r : Row). r.id) found) cells)
    (is_none found, with_state t table (put_cells cells found (state_at t.states table)))

-- THE line
abbrev pub act_line : List Column → ℕ → ℕ → List ℕ → List Data → Tables
    → Result (Bool × Tables) RowRefusal
act_line columns table key numbers line t = put_line columns table numbers line t
    (keyed key (key_of numbers key line) (state_at t.states table).rows)

-- ---- lines, one after another

abbrev pub none_yet : Counts
none_yet = record { added = 0; changed = 0 }

abbrev pub one_more : Bool → Counts → Counts
one_more true c = record { added = c.added + 1; changed = c.changed }
one_more false c = record { added = c.added; changed = c.changed + 1 }

abbrev pub counting : Bool → Result (Counts × Tables) BrokenLine
    → Result (Counts × Tables) BrokenLine
counting b (Ok x) = Ok (one_more b x.0, x.1)
counting b (Err e) = Err e

-- the others after one, over the tables that it made
abbrev pub then_lines : ℕ → (Tables → Result (Counts × Tables) BrokenLine)
    → Result (Bool × Tables) RowRefusal → Result (Counts × Tables) BrokenLine
then_lines at go (Ok x) = counting x.0 (go x.1)
then_lines at go (Err r) = Err (record { at = at; refusal = r })

-- THE import, from the line of this number on
abbrev pub import : List Column → ℕ → ℕ → List ℕ → ℕ → List (List Data) → Tables
    → Result (Counts × Tables) BrokenLine
import columns table key numbers at [] t = Ok (none_yet, t)
import columns table key numbers at (l ∷ ls) t = then_lines at
    (import columns table key numbers (at + 1) ls) (act_line columns table key numbers l t)
