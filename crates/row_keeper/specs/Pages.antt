-- What queries give that take the first rows by their numbers.
use Rattle.std.specs.Prelude.{◌≡◌, ◌⊎◌, ℕ, ◌≤◌, List, [], ◌∷◌, length, map, take, None, Some}
use Rattle.std.specs.Prelude.{IsSomeAnd}
use Rattle.std.specs.List.{filter}
use Rattle.row_queries.specs.Queries.{AreAsked, first_outcome_fault, given_of, lies, outcome_on}
use Rattle.row_queries.specs.RowTests.{HasNoFaults, is_met}
use Rattle.row_queries.specs.Visits.{VisitsAtLeast}
use Rattle.row_queries.specs.declared.queries.Query.{Query}
use Rattle.row_queries.specs.declared.ranges.KeyRange.{KeyRange}
use Rattle.row_queries.specs.declared.rows.Row.{Row}
use Rattle.row_keeper.specs.Rules.{only_key}

-- ranges that hold one key alone
abbrev pub HoldOneKey : List KeyRange → Type 0
HoldOneKey rs = (key : List ℕ) × (rs ≡ only_key key ∷ [])

-- the index has the rows of such ranges by rising numbers: its entries go by keys, those of `ID` as
-- the numbers do, and those of one key go by numbers
abbrev pub GoesByNumber : ℕ → List KeyRange → Type 0
GoesByNumber column rs = (column ≡ 0) ⊎ HoldOneKey rs

-- a query takes the first so many rows by their numbers, and its test has no errors as constants
pub record IsPage (q : Query) (most : ℕ) : Type 0 where
  pub goes : GoesByNumber q.column q.ranges
  pub order : q.order ≡ None
  pub sound : HasNoFaults q.test
  pub take : q.take ≡ Some most

-- the first rows, at most so many, of those that a query asks
abbrev pub AreFirstRows : Query → List Row → ℕ → List Row → Type 0
AreFirstRows q rows most first = (asked : List Row) × AreAsked q rows asked
    × (first ≡ take most asked)

-- so many of the rows that a query asks tell what it gives: they are all, or as many of them meet
-- its test as it takes
abbrev pub AreEnough : Query → List Row → ℕ → Type 0
AreEnough q asked count = (length asked ≤ count) ⊎ IsSomeAnd q.take (λ most.
    most ≤ length (filter (λ r. is_met (outcome_on q r)) (take count asked)))

-- what a query gives, whose test is no error on a row, and for which so many rows were asked
pub record QueryGives (q : Query) (rows given : List Row) (count : ℕ) : Type 0 where
  pub asked : List Row
  pub are : AreAsked q rows asked
  pub sound : first_outcome_fault (map (outcome_on q) asked) ≡ None
  pub are_given : given ≡ given_of q asked
  pub least : length given ≤ count
  pub most : count ≤ length (filter (lies q) rows)
  pub enough : AreEnough q asked count

-- all rows are counted as visited that a query asks for what it answers, of which so many are given
pub record CountsAsked (q : Query) (rows : List Row) (given before now : ℕ) : Type 0 where
  pub asked : List Row
  pub are : AreAsked q rows asked
  pub count : ℕ
  pub enough : AreEnough q asked count
  pub least : given ≤ count
  pub counted : VisitsAtLeast count before now
