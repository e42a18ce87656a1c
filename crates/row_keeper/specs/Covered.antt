-- The columns that an index covers, and the entries of rows.
use Rattle.std.specs.Prelude.{◌≡◌, ℕ, ◌+◌, ◌<◌, ◌==◌, ◌&&◌, ◌||◌, Bool, false, bytes_eq, cond, List}
use Rattle.std.specs.Prelude.{[], ◌∷◌, map, Option, None, Some}
use Rattle.std.specs.List.{list_any}
use Rattle.std.specs.Option.{is_some}
use Rattle.fx_types.specs.Values.{Data}
use Rattle.fx_core.specs.declared.schema.Column.{Column}
use Rattle.fx_value.specs.Keys.{key_bytes}
use Rattle.row_queries.specs.TableRows.{id_value, value_at}
use Rattle.row_queries.specs.Ranges.{in_ranges}
use Rattle.row_queries.specs.declared.ranges.KeyRange.{KeyRange}
use Rattle.row_keeper.specs.Entries.{now_in, then_in}
use Rattle.row_keeper.specs.Slots.{now_at, then_at}
use Rattle.row_keeper.specs.declared.index.Mark.{Mark}
use Rattle.row_keeper.specs.declared.row_slots.Slot.{Slot}

-- the numbers of the columns that are indexed or unique, where the first is numbered k
abbrev pub indexed_from : ℕ → List Column → List ℕ
indexed_from k [] = []
indexed_from k (c ∷ cs) = cond (c.indexed || c.unique) (k ∷ indexed_from (k + 1) cs)
    (indexed_from (k + 1) cs)

-- `ID` is always indexed
abbrev pub covered_of : List Column → List ℕ
covered_of columns = 0 ∷ indexed_from 1 columns

abbrev pub covers : List ℕ → ℕ → Bool
covers covered column = list_any (λ c. c == column) covered

-- the key of a row's value in a column
abbrev pub key_at : ℕ → List Data → ℕ → List ℕ
key_at id cells column = key_bytes (value_at (id_value id ∷ cells) column)

-- the entries of a row
abbrev pub entries_of : List ℕ → ℕ → List Data → List ((ℕ × List ℕ) × ℕ)
entries_of covered id cells = map (λ c. ((c, key_at id cells c), id)) covered

-- the entry is one of the cells that stand under its number
abbrev pub has_entry : (ℕ × List ℕ) × ℕ → Option (List Data) → Bool
has_entry q None = false
has_entry q (Some cells) = bytes_eq (key_at q.1 cells q.0.0) q.0.1

-- the index has exactly the entries of the rows, now and as the transaction began
abbrev pub Agrees : List ℕ → List (ℕ × Slot) → List (((ℕ × List ℕ) × ℕ) × Mark) → Type 0
Agrees covered rows es =
    ((q : (ℕ × List ℕ) × ℕ) → now_in es q ≡ (covers covered q.0.0 && has_entry q (now_at rows q.1)))
    × ((q : (ℕ × List ℕ) × ℕ) → then_in es q ≡ (covers covered q.0.0
    && has_entry q (then_at rows q.1)))

-- no number above the last has a row
abbrev pub NoneAbove : ℕ → (ℕ → Option (List Data)) → Type 0
NoneAbove last at = (i : ℕ) → last < i → is_some (at i) ≡ false

-- cells under a number lie in ranges of a column
abbrev pub lie_in : ℕ → List KeyRange → ℕ → Option (List Data) → Bool
lie_in column rs i None = false
lie_in column rs i (Some cells) = in_ranges rs (key_at i cells column)
