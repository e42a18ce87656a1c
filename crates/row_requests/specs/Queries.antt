-- What is asked of a keeper.
use Rattle.std.specs.Prelude.{◌≡◌, ℕ, ◌+◌, ◌^◌, ◌<◌, ◌≤◌, List, [], ◌∷◌, ◌++◌, length, take, Option}
use Rattle.std.specs.Prelude.{Some, None, IfSome}
use Rattle.std.specs.List.{All}
use Rattle.fx_value.specs.Keys.{key_bytes}
use Rattle.row_queries.specs.Conditions.{always}
use Rattle.row_queries.specs.TableRows.{AreInIdOrder, id_value}
use Rattle.row_queries.specs.declared.queries.Query.{Query}
use Rattle.row_queries.specs.declared.ranges.KeyRange.{KeyRange}
use Rattle.row_queries.specs.declared.rows.Row.{Row}
use Rattle.row_keeper.specs.Tables.{TableState, Tables, state_at}
use Rattle.row_requests.specs.Changes.{row_with_id}
use Rattle.row_requests.specs.Page.{past}

-- the first bytes after a key
abbrev pub after_key : List ℕ → List ℕ
after_key key = key ++ 0 ∷ []

-- the range of the keys after one
abbrev pub beyond : List ℕ → KeyRange
beyond key = record { from = after_key key; upto = None }

-- the rows of greater numbers, one more than a page shows
abbrev pub next_rows : ℕ → ℕ → Query
next_rows table after =
    record {
      table = table;
      column = 0;
      ranges = beyond (key_bytes (id_value after)) ∷ [];
      test = always;
      order = None;
      take = Some 101;
    }

-- this is the row of a number, where the rows stand by rising numbers, and nothing changes
abbrev pub FindsRow : ℕ → ℕ → Option Row → Tables → Tables → Type 0
FindsRow k id found a b = (AreInIdOrder (state_at a.states k).rows
    → found ≡ row_with_id id (state_at a.states k).rows) × (b ≡ a)

-- the rows stand by rising numbers, each of 32 bits
pub record HasNumberedRows (s : TableState) : Type 0 where
  pub rising : AreInIdOrder s.rows
  pub bounded : All (λ (r : Row). r.id < 2 ^ 32) s.rows

-- these are the rows of greater numbers, one more than a page shows, where the rows are numbered,
-- and nothing changes
abbrev pub FindsRows : ℕ → ℕ → List Row → Tables → Tables → Type 0
FindsRows k after found a b = (HasNumberedRows (state_at a.states k)
    → found ≡ take 101 (past after (state_at a.states k).rows)) × (b ≡ a)

-- where rows are numbered, none are visited but those of greater numbers
abbrev pub VisitsPast : ℕ → ℕ → Option Tables → ℕ → ℕ → Type 0
VisitsPast k after told before now =
    IfSome told (λ (t : Tables). HasNumberedRows (state_at t.states k)
    → now ≤ before + length (past after (state_at t.states k).rows))
