use Rattle.std.proofs.Common.{◌≡◌, ◌≢◌, ℕ, ◌<◌, ◌≤◌, ◌^◌, ◌&&◌, nat_le, Bool, true, false, if◌then◌else◌, List, length, get_or, slice_index, ◌==◌, eq-eqb, Some, None, Result, refl, arith}
use Rattle.std.proofs.lemmas.Bool.{and_parts, leb-true}
use Rattle.std.specs.Str.{all_ascii_digits}
use Rattle.std.specs.Str.Parse.{ParsesUnsigned, digits_value}
use Rattle.std.specs.Result.{OkIff}
use Rattle.std.proofs.lemmas.Bool.Decides.{nat_tests}
use Rattle.std.proofs.lemmas.Str.Parse.{IsNumeralModel, numerals_by_value, parse_plain, tells_all_ascii_digits}
use Rattle.fx_cli.specs.Words.{is_sample_number, sample_number}
use Rattle.fx_cli.proofs.words.sample_number_in.Goals as goal

own : IsNumeralModel (λ ds. all_ascii_digits ds ≡ true) (digits_value 10)
own = numerals_by_value (λ ds. all_ascii_digits ds ≡ true) tells_all_ascii_digits

-- digits that write a number in the bounds
within : (n : ℕ) (bs : List ℕ) → all_ascii_digits bs ≡ true → 0 < length bs → n ≡ digits_value 10 bs → n ≤ 1000000 → Some n ≡ sample_number bs
within n bs all some e high = grind (arith, nat_tests)

-- what is no number of 64 bits
without : (bs : List ℕ) → ((all_ascii_digits bs ≡ true) × (0 < length bs) × (digits_value 10 bs < 2 ^ 64) → ⊥) → None ≡ sample_number bs
without bs h = by (is_sample_number bs) refl
  where
    parts : is_sample_number bs ≡ true → (all_ascii_digits bs ≡ true) × (0 < length bs) × (digits_value 10 bs < 2 ^ 64)
    parts e =
        let two = and_parts (nat_le 1 (length bs) && all_ascii_digits bs) (nat_le (digits_value 10 bs) 1000000) e in
        let front = and_parts (nat_le 1 (length bs)) (all_ascii_digits bs) two.0 in
        (front.1, omega (arith, leb-true 1 (length bs) front.0), omega (arith, leb-true (digits_value 10 bs) 1000000 two.1))

    by : (b : Bool) → is_sample_number bs ≡ b → None ≡ (if b then Some (digits_value 10 bs) else None)
    by true e = absurd (h (parts e))
    by false e = refl

reads : {E : Type 0} (bs : List ℕ) (r : Result ℕ E) → ParsesUnsigned 64 10 bs r → get_or bs 0 0 ≢ 43 → OkIff r ((all_ascii_digits bs ≡ true) × (0 < length bs) × (digits_value 10 bs < 2 ^ 64)) (digits_value 10 bs)
reads bs r h plain = parse_plain own 64 bs r h plain

-- no plus stands first
plain : (bs : List ℕ) → false ≡ (slice_index bs 0 == 43) → get_or bs 0 0 ≢ 43
plain bs h e = let same : (slice_index bs 0 == 43) ≡ true = eq-eqb (get_or bs 0 0) 43 e in cc

pub returns-in-Ok-clause-number : goal.returns-in-Ok-clause-number
returns-in-Ok-clause-number c =
    let k = reads c.args.text.now c.parse.result c.parse.ensures.value.0 (plain c.args.text.now (c.if-starts_with.ensures.byte (omega arith) (omega arith) (λ w o h. h))) in
    let is = rw c.in-Ok.is at k in
    within c.in-Ok.number c.args.text.now is.0.0 is.0.1 is.1 c.if-number-le-MOST_SAMPLE.true

pub returns-in_default-2-clause-number : goal.returns-in_default-2-clause-number
returns-in_default-2-clause-number c =
    let k = reads c.args.text.now c.parse.result c.parse.ensures.value.0 (plain c.args.text.now (c.if-starts_with.ensures.byte (omega arith) (omega arith) (λ w o h. h))) in
    without c.args.text.now (rw c.in_default.is at k)
