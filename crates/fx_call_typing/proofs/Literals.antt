-- Functions that a literal behind the other arguments may change, by how many arguments there are.
use Rattle.std.proofs.Common.{◌≡◌, ℕ, zero, suc, ◌+◌, ◌-◌, Bool, true, false, List, [], ◌∷◌, length, take, drop, Err, if◌then◌else◌, refl, arith}
use Rattle.std.proofs.lemmas.Bool.Decides.{nat_tests}
use Rattle.std.specs.Prelude.{nat_eq, nat_le}
use Rattle.std.proofs.lemmas.List.{take_all}
use Rattle.fx_core.specs.declared.functions.Fun.{Fun}
use Rattle.fx_core.specs.Rows.{row_of}
use Rattle.fx_typing.specs.Local.{Piece, node_made}
use Rattle.fx_typing.specs.Calls.{function_by, literal_in, made_if, made_literal}

-- one more
pub literal_one : (f : Fun) (ps : List Piece) → length ps ≡ (row_of f).most + 1 →
    made_literal f ps ≡ made_if (function_by f (literal_in (drop (row_of f).most ps))) (take (row_of f).most ps)
literal_one f ps h = by (nat_le (length ps) (row_of f).most) (nat_eq (length ps) (suc (row_of f).most)) refl refl
  where
    by : (b c : Bool) → nat_le (length ps) (row_of f).most ≡ b → nat_eq (length ps) (suc (row_of f).most) ≡ c →
        (if b then node_made f ps
        else (if c then made_if (function_by f (literal_in (drop (row_of f).most ps))) (take (row_of f).most ps) else Err 7))
        ≡ made_if (function_by f (literal_in (drop (row_of f).most ps))) (take (row_of f).most ps)
    by true c e k = absurd (grind (arith, nat_tests))
    by false true e k = refl
    by false false e k = absurd (grind (arith, nat_tests))

-- what stands behind the first ones
pub behind_first : {A : Type 0} (xs : List A) (n : ℕ) → take (length xs - n) (drop n xs) ≡ drop n xs
behind_first [] zero = refl
behind_first [] (suc n) = let e : 0 - suc n ≡ 0 = omega arith in rw e refl
behind_first (x ∷ xs) zero = let e : length (x ∷ xs) - 0 ≡ length (x ∷ xs) = omega arith in rw e (take_all (length (x ∷ xs)) (x ∷ xs) (omega arith))
behind_first (x ∷ xs) (suc n) = let e : length (x ∷ xs) - suc n ≡ length xs - n = omega arith in rw e (behind_first xs n)
