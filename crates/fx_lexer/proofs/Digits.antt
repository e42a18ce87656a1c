-- The digits of numbers are those of the class.
use Rattle.std.proofs.Common.{◌≡◌, ℕ, zero, suc, ◌+◌, ◌-◌, ◌<◌, ◌≤◌, true, List, [], ◌∷◌, refl, ap, subst, arith}
use Rattle.std.proofs.lemmas.Bool.Decides.{nat_tests}
use Rattle.std.specs.Char.{digit_value}
use Rattle.std.specs.Str.Parse.{AllDigits}
use Rattle.fx_lexer.specs.declared.element.Class.TheVariants.{Digit}
use Rattle.fx_lexer.specs.Spelling.{class_at, goes_on_number, in_number, Every}

digit_class : (k : ℕ) → k < 10 → class_at (48 + k) ≡ Digit
unfolding class_at
digit_class zero h = refl
digit_class (suc zero) h = refl
digit_class (suc (suc zero)) h = refl
digit_class (suc (suc (suc zero))) h = refl
digit_class (suc (suc (suc (suc zero)))) h = refl
digit_class (suc (suc (suc (suc (suc zero))))) h = refl
digit_class (suc (suc (suc (suc (suc (suc zero)))))) h = refl
digit_class (suc (suc (suc (suc (suc (suc (suc zero))))))) h = refl
digit_class (suc (suc (suc (suc (suc (suc (suc (suc zero)))))))) h = refl
digit_class (suc (suc (suc (suc (suc (suc (suc (suc (suc zero))))))))) h = refl
digit_class (suc (suc (suc (suc (suc (suc (suc (suc (suc (suc k)))))))))) h = absurd (omega arith)

pub digit_range : (c : ℕ) → digit_value c < 10 → (48 ≤ c) × (c ≤ 57)
digit_range c h = (grind (arith, nat_tests), grind (arith, nat_tests))

pub digit_is : (c : ℕ) → digit_value c < 10 → class_at c ≡ Digit
digit_is c h =
    let r = digit_range c h in
    let e : 48 + (c - 48) ≡ c = omega arith in
    subst (λ x. class_at x ≡ Digit) e (digit_class (c - 48) (omega arith))

is_digit : (c : ℕ) → in_number c ≡ true → digit_value c < 10
unfolding class_at
is_digit c h = grind (arith, nat_tests)

pub all_digits : (ds : List ℕ) → Every in_number ds → AllDigits 10 ds
all_digits [] h = tt
all_digits (d ∷ ds) h = (is_digit d h.0, all_digits ds h.1)

pub every_digit : (ds : List ℕ) → AllDigits 10 ds → Every in_number ds
every_digit [] h = tt
every_digit (d ∷ ds) h = (ap goes_on_number (digit_is d h.0), every_digit ds h.1)
