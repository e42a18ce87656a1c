-- Calls over tables.
use Rattle.std.proofs.Common.{◌≡◌, ℕ, zero, suc, ◌<◌, true, arith}
use Rattle.fx_core.specs.declared.functions.Fun.{Fun}
use Rattle.fx_core.specs.declared.functions.Fun.TheVariants as fun
use Rattle.fx_core.specs.declared.rows.Takes.TheVariants as takes
use Rattle.fx_core.specs.Rows.{row_of, takes_count}

-- a function over a table has an argument
none_over : (f : Fun) → (row_of f).first ≡ takes.Table → takes_count (row_of f) 0 ≡ true → ⊥
none_over fun.Filter h t = cc
none_over f h t = cc

pub some_over : (f : Fun) (n : ℕ) → takes_count (row_of f) n ≡ true → (row_of f).first ≡ takes.Table → 0 < n
some_over f zero t h = absurd (none_over f h t)
some_over f (suc n) t h = omega arith
