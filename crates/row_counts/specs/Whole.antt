-- Queries of whole tables.
use Rattle.std.specs.Prelude.{◌≡◌, ℕ, cond, true, List, Option, None, Some, option_map}
use Rattle.std.specs.Cmp.Lexicographic.{slice_cmp}
use Rattle.std.specs.Ordering.{is_le, nat_cmp}
use Rattle.row_queries.specs.Conditions.{always}
use Rattle.row_queries.specs.Ranges.{in_ranges}
use Rattle.row_queries.specs.declared.queries.Query.{Query}
use Rattle.row_queries.specs.declared.ranges.KeyRange.{KeyRange}

-- the later of two keys
abbrev pub later_key : List ℕ → List ℕ → List ℕ
later_key a b = cond (is_le (slice_cmp nat_cmp a b)) b a

-- before which key all lie in ranges, where one is behind those that hold all before another; none
-- where every key lies in them
abbrev pub next_held : List ℕ → KeyRange → Option (List ℕ)
next_held held r = cond (is_le (slice_cmp nat_cmp r.from held)) (option_map (later_key held) r.upto)
    (Some held)

-- every key lies in one of the ranges
abbrev pub HoldAllKeys : List KeyRange → Type 0
HoldAllKeys rs = (key : List ℕ) → in_ranges rs key ≡ true

-- a query of all rows: every row meets its test and lies in its ranges, and all are given
pub record IsOfAllRows (q : Query) : Type 0 where
  pub test : q.test ≡ always
  pub take : q.take ≡ None
  pub ranges : HoldAllKeys q.ranges
