-- Where a name stands among rising ones.
use Rattle.std.specs.Prelude.{ℕ, suc, List, [], ◌∷◌}
use Rattle.std.specs.Ordering.{nat_cmp, match_ordering}
use Rattle.std.specs.Cmp.Lexicographic.{slice_cmp}

-- how many names are below this one
abbrev pub column_rank : {A : Type 0} → List ℕ → List (List ℕ × A) → ℕ
column_rank n [] = 0
column_rank n (c ∷ cs) = match_ordering (slice_cmp nat_cmp n c.0) 0 0 (suc (column_rank n cs))
