use Rattle.std.proofs.Common.{◌≡◌, ℕ, zero, suc, ◌<◌, ◌≤◌, ◌^◌, ◌&&◌, nat_le, true, List, [], ◌∷◌, length, Some, None, Result, Ok, refl, ap, sym, ◌∙◌, subst, arith, lit<}
use Rattle.std.specs.List.{list_all}
use Rattle.std.specs.Char.{is_ascii_digit}
use Rattle.std.specs.Result.{result_ok}
use Rattle.std.specs.Str.{IsAscii, all_ascii_digits}
use Rattle.std.specs.Str.Parse.{ParsesUnsigned, digits_value}
use Rattle.std.proofs.lemmas.Bool.{and_parts, cond-true, leb-true}
use Rattle.std.proofs.lemmas.Bool.Decides.{nat_tests}
use Rattle.std.proofs.lemmas.Str.{IsUtf8-from_ascii}
use Rattle.std.proofs.lemmas.Str.Parse.{IsNumeralModel, digits_value_short, numerals_by_value, parse_gives, tells_all_ascii_digits}
use Rattle.app_wire.specs.Bodies.{is_length}
use Rattle.app_wire.proofs.body.number_of.Goals as goal

own : IsNumeralModel (λ ds. all_ascii_digits ds ≡ true) (digits_value 10)
own = numerals_by_value (λ ds. all_ascii_digits ds ≡ true) tells_all_ascii_digits

same_digits : (bs : List ℕ) → list_all is_ascii_digit bs ≡ all_ascii_digits bs
same_digits [] = refl
same_digits (x ∷ xs) = ap (λ b. is_ascii_digit x && b) (same_digits xs)

small : (b : ℕ) → is_ascii_digit b ≡ true → b < 128
small b h = grind (arith, nat_tests, h)

digits_ascii : (bs : List ℕ) → list_all is_ascii_digit bs ≡ true → IsAscii bs
digits_ascii [] h i = lit< tt
digits_ascii (x ∷ xs) h zero = small x (and_parts (is_ascii_digit x) (list_all is_ascii_digit xs) h).0
digits_ascii (x ∷ xs) h (suc i) = digits_ascii xs (and_parts (is_ascii_digit x) (list_all is_ascii_digit xs) h).1 i

-- the parts of the test
all_of : (bs : List ℕ) → is_length bs ≡ true → list_all is_ascii_digit bs ≡ true
all_of bs h = (and_parts (nat_le 1 (length bs) && nat_le (length bs) 19) (list_all is_ascii_digit bs) h).1

many_of : (bs : List ℕ) → is_length bs ≡ true → (1 ≤ length bs) × (length bs ≤ 19)
many_of bs h =
    let two = and_parts (nat_le 1 (length bs)) (nat_le (length bs) 19) (and_parts (nat_le 1 (length bs) && nat_le (length bs) 19) (list_all is_ascii_digit bs) h).0 in
    (leb-true 1 (length bs) two.0, leb-true (length bs) 19 two.1)

-- 19 digits are read
reads : {E : Type 0} (bs ds : List ℕ) (r : Result ℕ E) → ds ≡ bs → ParsesUnsigned 64 10 ds r → is_length bs ≡ true → r ≡ Ok (digits_value 10 bs)
reads bs ds r e h is =
    let many = many_of bs is in
    let digits : all_ascii_digits bs ≡ true = sym (same_digits bs) ∙ all_of bs is in
    let short : digits_value 10 bs < 10 ^ 19 = digits_value_short own bs 19 digits many.1 in
    let below : digits_value 10 bs < 2 ^ 64 = omega (arith, short) in
    let some : 0 < length bs = omega (arith, many.0) in
    parse_gives own 64 bs r (subst (λ t. ParsesUnsigned 64 10 t r) e h) digits some below

pub returns-in-Ok : goal.returns-in-Ok
returns-in-Ok c =
    let v = c.args.value.now in
    let is : is_length v ≡ true = sym c.if-not-is_length.ensures in
    c.ok.ensures.value ∙ ap result_ok (reads v c.in-Ok.digits.now c.parse.result c.in-Ok.ensures.cases.0 c.parse.ensures.value.0 is)
    ∙ sym (cond-true (is_length v) (Some (digits_value 10 v)) None is)

pub returns-in-Err : goal.returns-in-Err
returns-in-Err c =
    let v = c.args.value.now in
    absurd (c.in-Err.ensures.cases.0 (IsUtf8-from_ascii v (digits_ascii v (all_of v (sym c.if-not-is_length.ensures)))))
