-- How many rows are kept.
use Rattle.std.specs.Prelude.{◌≡◌, ℕ, [], ◌∷◌, length, Some, None}
use Rattle.row_queries.specs.Conditions.{always}
use Rattle.row_queries.specs.declared.queries.Query.{Query}
use Rattle.row_keeper.specs.Tables.{Tables, state_at}

-- every row of the first table: its number lies among all keys
abbrev pub every_row : Query
every_row = record {
  table = 0;
  column = 0;
  ranges = record { from = []; upto = None } ∷ [];
  test = always;
  order = None;
  take = None;
}

-- the first table has so many rows, and nothing changes
abbrev pub HasRowCount : ℕ → Tables → Tables → Type 0
HasRowCount n a b = (n ≡ length (state_at a.states 0).rows) × (b ≡ a)
