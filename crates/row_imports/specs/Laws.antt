-- The law of an import that comes again.
use Rattle.std.specs.Prelude.{◌≡◌, ◌≢◌, ◌<◌, ◌≤◌, ℕ, suc, false, List, [], ◌∷◌, length, Some, Ok}
use Rattle.std.specs.List.{AllByRecursion}
use Rattle.fx_types.specs.Values.{Data, blank}
use Rattle.fx_core.specs.declared.schema.Column.{Column}
use Rattle.row_queries.specs.TableRows.{AreInIdOrder}
use Rattle.row_queries.specs.declared.rows.Row.{Row}
use Rattle.row_keeper.specs.RowRules.{is_same_key}
use Rattle.row_keeper.specs.Tables.{TableState, Tables, state_at}
use Rattle.row_imports.specs.Imports.{given_for, import, key_of}
use Rattle.row_imports.specs.declared.imports.Counts.{Counts}

-- rows by rising numbers, none of which is above the last that was given
pub record HasGivenNumbers (s : TableState) : Type 0 where
  pub rising : AreInIdOrder s.rows
  pub given : AllByRecursion (λ (r : Row). r.id ≤ s.last) s.rows

-- the key is another one than that of each of these lines
abbrev pub HasOtherKey : List ℕ → ℕ → Data → List (List Data) → Type 0
HasOtherKey numbers key d [] = Unit {0}
HasOtherKey numbers key d (l ∷ ls) = (is_same_key d (key_of numbers key l) ≡ false)
    × (is_same_key (key_of numbers key l) d ≡ false) × HasOtherKey numbers key d ls

-- each line gives a key, none is blank, and no two have one
abbrev pub HaveKeys : List ℕ → ℕ → List (List Data) → Type 0
HaveKeys numbers key [] = Unit {0}
HaveKeys numbers key (l ∷ ls) = (given_for numbers l key ≡ Some (key_of numbers key l))
    × (key_of numbers key l ≢ blank) × HasOtherKey numbers key (key_of numbers key l) ls
    × HaveKeys numbers key ls

-- THE LAW: an import that was accepted, once more, adds no row, changes as many as there are lines,
-- and leaves the tables as they are
abbrev pub RepeatsImport : Type 0
RepeatsImport = (columns : List Column) (table place : ℕ) (numbers : List ℕ) (at : ℕ)
    (lines : List (List Data)) (t u : Tables) (c : Counts)
    → place < length columns → table < length t.states
    → HasGivenNumbers (state_at t.states table) → HaveKeys numbers (suc place) lines
    → import columns table (suc place) numbers at lines t ≡ Ok (c, u)
    → import columns table (suc place) numbers at lines u
    ≡ Ok (record { added = 0; changed = length lines }, u)
