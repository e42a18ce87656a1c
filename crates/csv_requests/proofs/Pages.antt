-- The rows of a page.
use Rattle.std.proofs.Common.{◌≡◌, ℕ, ◌<◌, ◌≤◌, ◌⊎◌, inl, inr, min, List, length, take, ap, sym, ◌∙◌, arith}
use Rattle.std.proofs.lemmas.Bool.{cases_lt}
use Rattle.std.proofs.lemmas.List.{take_all}
use Rattle.row_queries.specs.declared.rows.Row.{Row}

pub first_of_all : (rows : List Row) (n : ℕ) → n ≡ min (length rows) 1000 → take n rows ≡ take 1000 rows
first_of_all rows n e = by (cases_lt 1000 (length rows))
  where
    by : (1000 < length rows) ⊎ (length rows ≤ 1000) → take n rows ≡ take 1000 rows
    by (inl h) = let k : n ≡ 1000 = omega (arith, e, h) in ap (λ m. take m rows) k
    by (inr h) = let k : length rows ≤ n = omega (arith, e, h) in take_all n rows k ∙ sym (take_all 1000 rows h)
