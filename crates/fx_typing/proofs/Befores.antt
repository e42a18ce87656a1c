-- Lists that are made from the left, up to the first rule that breaks.
use Rattle.std.proofs.Common.{◌≡◌, ℕ, List, ◌++◌, Result, Ok, Err}

-- these things before others
abbrev pub before : {A : Type 0} → List A → Result (List A) ℕ → Result (List A) ℕ
before xs (Ok ys) = Ok (xs ++ ys)
before xs (Err e) = Err e
