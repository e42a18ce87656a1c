-- Mixed filters: those of a query expression of which some conditions are delegable and some
-- aren't. A keeper judges the delegable ones over the whole table.
use Rattle.std.specs.Prelude.{◌≡◌, ℕ, List, [], ◌∷◌, Bool, true, not, ◌&&◌, Option, Some, None}
use Rattle.std.specs.Prelude.{is_some, slice_get, option_map, option_and_then, if◌then◌else◌}
use Rattle.std.specs.List.{list_any}
use Rattle.filter_parts.specs.Splits.{split_with}
use Rattle.fx_core.specs.declared.functions.Fun.TheVariants as fun
use Rattle.fx_core.specs.declared.schema.TableShape.{TableShape}
use Rattle.fx_core.specs.Term.{Term, Terms, of, nil, cons}
use Rattle.fx_core.specs.Term as top
use Rattle.fx_plan.specs.declared.plans.Sketch.{Sketch}
use Rattle.fx_plan.specs.QueryExpressions.{pattern_of, sketch_of}

-- a condition is delegable
abbrev pub is_delegable : TableShape → ℕ → Term → Bool
is_delegable t k c = is_some (pattern_of t k c [])

-- which of several are
abbrev pub delegable_ones : TableShape → ℕ → Terms → List Bool
delegable_ones t k nil = []
delegable_ones t k (cons c cs) = is_delegable t k c ∷ delegable_ones t k cs

-- what is told of a mixed filter: the table of its query expression, and for each condition whether
-- it is delegable
pub record MixOf : Type 0 where
  pub table : ℕ
  pub marks : List Bool

-- some marks are set and some aren't
abbrev pub are_both : List Bool → Bool
are_both bs = list_any (λ b. b) bs && list_any not bs

abbrev pub mix_by : ℕ → List Bool → Option MixOf
mix_by n bs = if are_both bs then Some (record { table = n; marks = bs }) else None

-- of these conditions on rows of a table of this number
abbrev pub mix_over : List TableShape → ℕ → ℕ → Terms → Option MixOf
mix_over ts k n cs = option_and_then (λ (t : TableShape). mix_by n (delegable_ones t k cs))
    (slice_get ts n)

-- THE mix of a tree under so many scopes; none where the tree is no mixed filter
abbrev pub mix_of : List TableShape → ℕ → Term → Option MixOf
mix_of ts k (of (top.over fun.Filter) (cons q cs)) =
    option_and_then (λ (s : Sketch). mix_over ts k s.table cs) (sketch_of ts k q)
mix_of ts k c = None

abbrev pub is_mixed : List TableShape → ℕ → Term → Bool
is_mixed ts k c = is_some (mix_of ts k c)

-- a mixed filter as two: its query expression, which is the filter with the delegable conditions,
-- and the other conditions
abbrev pub split_of : List TableShape → ℕ → Term → Option (Term × Terms)
split_of ts k t = option_map (λ (m : MixOf). split_with m.marks t) (mix_of ts k t)

-- a law: what is asked of a mixed filter is one query
abbrev pub SplitsAreQueries : Type 0
SplitsAreQueries =
    (ts : List TableShape) (k : ℕ) (t : Term) (p : Term × Terms) → split_of ts k t ≡ Some p
    → is_some (sketch_of ts k p.0) ≡ true

-- a law: no query expression is mixed
abbrev pub QueriesAreUnmixed : Type 0
QueriesAreUnmixed =
    (ts : List TableShape) (k : ℕ) (t : Term) → is_some (sketch_of ts k t) ≡ true
    → mix_of ts k t ≡ None
