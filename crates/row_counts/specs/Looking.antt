-- What a keeper is that was only looked at.
use Rattle.std.specs.Prelude.{◌≡◌, ◌<◌, ◌^◌, ℕ, ℤ, List, Option, Some, IfSome, take}
use Rattle.std.specs.List.{All, find}
use Rattle.fx_base.specs.Silence.{IsLater}
use Rattle.fx_base.specs.Telling.{Stays}
use Rattle.row_queries.specs.TableRows.{AreInIdOrder, values_of}
use Rattle.row_queries.specs.declared.rows.Row.{Row}
use Rattle.row_keeper.specs.Over.{Becomes}
use Rattle.row_keeper.specs.Passing.{Around, Passes, around}
use Rattle.row_keeper.specs.Tables.{Tables, has_id, state_at}
use Rattle.row_keeper.specs.declared.keeper.Keeper.{Ghosts}
use Rattle.row_counts.specs.Filling.{past}
use Rattle.row_books.specs.Numbers.{numbers_of}

module _ {K : Type 0} (g : Ghosts K) where
  -- a keeper beside its tables and its shape
  abbrev pub beside : K → Around
  beside k = around (g.began k) (g.attached k) (g.leaves k) (g.in_transaction k) (g.marks k)
      (g.visited k) (g.loan k)

  -- its tables stay, its shape, and the rest, but that rows may be visited
  pub record OnlyLooks (old new : K) : Type 0 where
    pub told : Becomes g old new Stays
    pub shaped : g.shaped new ≡ g.shaped old
    pub passes : Passes (beside old) (beside new)
    pub later : IsLater (g.marks old) (g.marks new)

-- this is the row of a number in a table, where its rows are told and stand by rising numbers
abbrev pub IsFound : Option Tables → ℕ → ℕ → Option Row → Type 0
IsFound told table id found = IfSome told (λ t. AreInIdOrder (state_at t.states table).rows
    → found ≡ find (has_id id) (state_at t.states table).rows)

-- these are the first thousand rows of greater numbers in a table, where its rows are told, stand
-- by rising numbers, and those are of 32 bits
abbrev pub IsPage : Option Tables → ℕ → ℕ → List Row → Type 0
IsPage told table after found = IfSome told (λ t. AreInIdOrder (state_at t.states table).rows
    → All (λ (r : Row). r.id < 2 ^ 32) (state_at t.states table).rows
    → found ≡ take 1000 (past after (state_at t.states table).rows))

-- these are by columns the numbers of the row of a number, where it is there
abbrev pub AreNumbersOf : Option Tables → ℕ → ℕ → List (Option ℤ) → Type 0
AreNumbersOf told table id numbers = IfSome told
    (λ t. AreInIdOrder (state_at t.states table).rows → (row : Row)
    → find (has_id id) (state_at t.states table).rows ≡ Some row
    → numbers ≡ numbers_of (values_of row))
