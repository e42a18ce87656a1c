-- Lists of numbers that rise, in which some may stand more than once: as bags.
use Rattle.std.specs.Prelude.{◌≡◌, ℕ, ◌+◌, cond, List, [], ◌∷◌, ℤ, ◌≤ℤ◌, Option, Some, None}
use Rattle.std.specs.List.{AllByRecursion}
use Rattle.std.specs.Ordering.{int_cmp, int_eq, is_le}

-- no number is below one before it
abbrev pub AreFrom : ℤ → List ℤ → Type 0
AreFrom z xs = AllByRecursion (λ x. z ≤ℤ x) xs

abbrev pub IsRising : List ℤ → Type 0
IsRising [] = Unit {0}
IsRising (x ∷ xs) = AreFrom x xs × IsRising xs

-- how often a number stands in a list
abbrev pub times : ℤ → List ℤ → ℕ
times z [] = 0
times z (x ∷ xs) = cond (int_eq x z) 1 0 + times z xs

-- each number stands as often in the one as in the other
abbrev pub AreSame : List ℤ → List ℤ → Type 0
AreSame xs ys = (z : ℤ) → times z xs ≡ times z ys

-- a number more, in its place
abbrev pub with_number : ℤ → List ℤ → List ℤ
with_number z [] = z ∷ []
with_number z (x ∷ xs) = cond (is_le (int_cmp z x)) (z ∷ x ∷ xs) (x ∷ with_number z xs)

-- without the number, once, where it stands there
abbrev pub without_number : ℤ → List ℤ → List ℤ
without_number z [] = []
without_number z (x ∷ xs) = cond (int_eq x z) xs (x ∷ without_number z xs)

-- the same for a number, if there is one
abbrev pub with_option : Option ℤ → List ℤ → List ℤ
with_option None xs = xs
with_option (Some z) xs = with_number z xs

abbrev pub without_option : Option ℤ → List ℤ → List ℤ
without_option None xs = xs
without_option (Some z) xs = without_number z xs

-- a number, if there is one, as a list
abbrev pub one_of : Option ℤ → List ℤ
one_of None = []
one_of (Some z) = z ∷ []
