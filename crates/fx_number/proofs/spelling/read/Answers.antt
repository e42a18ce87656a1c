use Rattle.std.proofs.Common.{◌≡◌, ◌≢◌, ◌∙◌, ap, List, ℕ, Bool, length, take_while, Some, None, sym, refl, eqb-true}
use Rattle.std.proofs.lemmas.Bool.{eqb-false}
use Rattle.std.specs.Char.{is_ascii_digit}
use Rattle.fx_number.specs.Decimal.{signed}
use Rattle.fx_number.specs.Spelling.{decimal_units, is_minus}
use Rattle.fx_number.specs.Reading.{is_space, skip_while, after_sign, sign_of, fraction_of, after_fraction}
use Rattle.fx_number.proofs.Decimals.{beyond}
use Rattle.fx_number.proofs.LeftToRight.{digits_at_front, digits_in_fraction, number_of, whole_of, rest_of, end_of, value_of, spelled-no_digit, spelled-more, spelled-some, reads-none, reads-beyond, reads-checked}
use Rattle.fx_number.proofs.spelling.read.Goals as goal
use Rattle.fx_number.proofs.spelling.read.Goals.{then-is_empty-via-then-is_empty, then-is_empty-via-else-is_empty+then-not-is_empty}

-- what the code found, step by step, are the parts of the text
record Parts (text number unsigned whole rest fraction tail : List ℕ) (negative : Bool) : Type 0 where
  whole_is : whole ≡ whole_of text
  fraction_is : fraction ≡ fraction_of (rest_of text)
  tail_is : tail ≡ after_fraction (rest_of text)
  sign_is : negative ≡ is_minus (sign_of (number_of text))

parts : (text bytes number unsigned whole rest fraction tail : List ℕ) (negative : Bool) → bytes ≡ text → number ≡ skip_while is_space bytes → negative ≡ is_minus (sign_of number) → unsigned ≡ after_sign number → whole ≡ take_while is_ascii_digit unsigned → rest ≡ skip_while is_ascii_digit unsigned → fraction ≡ fraction_of rest → tail ≡ after_fraction rest → Parts text number unsigned whole rest fraction tail negative
parts text bytes number unsigned whole rest fraction tail negative b n s u w r f t =
    let number_is : number ≡ number_of text = n ∙ ap (λ cs. skip_while is_space cs) b in
    let unsigned_is : unsigned ≡ after_sign (number_of text) = u ∙ ap after_sign number_is in
    let rest_is : rest ≡ rest_of text = r ∙ ap (λ cs. skip_while is_ascii_digit cs) unsigned_is in
    record {
      whole_is = w ∙ ap (λ cs. take_while is_ascii_digit cs) unsigned_is;
      fraction_is = f ∙ ap fraction_of rest_is;
      tail_is = t ∙ ap after_fraction rest_is;
      sign_is = s ∙ ap (λ cs. is_minus (sign_of cs)) number_is;
    }

pub units-requires-clause-whole : goal.units-requires-clause-whole
units-requires-clause-whole c = rw c.split_digits.ensures.digits (digits_at_front c.split_sign-negative.result.1.now)

pub units-requires-clause-fraction : goal.units-requires-clause-fraction
units-requires-clause-fraction c = rw c.split_fraction.ensures.digits (digits_in_fraction c.split_digits.result.1.now)

pub returns-then-is_empty : goal.returns-then-is_empty
returns-then-is_empty c =
    let own = parts c.args.text.now _ _ _ _ _ _ _ _ c.as_bytes.ensures.value c.skip_spaces.ensures c.split_sign-negative.ensures.sign c.split_sign-negative.ensures.rest c.split_digits.ensures.digits c.split_digits.ensures.rest c.split_fraction.ensures.digits c.split_fraction.ensures.rest in
    elim c.then-is_empty.branch [
      | then-is_empty-via-then-is_empty w ↦
          let empty = eqb-true _ _ (sym c.is_empty.ensures ∙ w.if-is_empty.true) in
          reads-none c.args.text.now None refl (spelled-no_digit c.args.text.now (ap length (sym own.whole_is) ∙ empty))
      | then-is_empty-via-else-is_empty+then-not-is_empty w ↦
          let more : length (end_of c.args.text.now) ≢ 0 =
          λ none. eqb-false _ _ (sym w.is_empty-else-is_empty.ensures ∙ w.if-not-is_empty.true)
          (ap length (w.skip_spaces-else-is_empty.ensures ∙ ap (λ cs. skip_while is_space cs) own.tail_is) ∙ none) in
          reads-none c.args.text.now None refl (spelled-more c.args.text.now more)
    ]

pub returns-in_err-units : goal.returns-in_err-units
returns-in_err-units c =
    let own = parts c.args.text.now _ _ _ _ _ _ _ _ c.as_bytes.ensures.value c.skip_spaces.ensures c.split_sign-negative.ensures.sign c.split_sign-negative.ensures.rest c.split_digits.ensures.digits c.split_digits.ensures.rest c.split_fraction.ensures.digits c.split_fraction.ensures.rest in
    let some : length (whole_of c.args.text.now) ≢ 0 =
    λ none. eqb-false _ _ (sym c.is_empty.ensures ∙ c.if-is_empty.false) (ap length own.whole_is ∙ none) in
    let end : length (end_of c.args.text.now) ≡ 0 =
    ap length (sym (c.skip_spaces-else-is_empty.ensures ∙ ap (λ cs. skip_while is_space cs) own.tail_is))
    ∙ eqb-true _ _ (sym c.is_empty-else-is_empty.ensures ∙ c.if-not-is_empty.false) in
    reads-beyond c.args.text.now _ (value_of c.args.text.now) c.from_residual.ensures (spelled-some c.args.text.now some end)
    (beyond _ _ (rw (own.whole_is, own.fraction_is) at c.in_err-units.ensures))

pub returns : goal.returns
returns c =
    let own = parts c.args.text.now _ _ _ _ _ _ _ _ c.as_bytes.ensures.value c.skip_spaces.ensures c.split_sign-negative.ensures.sign c.split_sign-negative.ensures.rest c.split_digits.ensures.digits c.split_digits.ensures.rest c.split_fraction.ensures.digits c.split_fraction.ensures.rest in
    let some : length (whole_of c.args.text.now) ≢ 0 =
    λ none. eqb-false _ _ (sym c.is_empty.ensures ∙ c.if-is_empty.false) (ap length own.whole_is ∙ none) in
    let end : length (end_of c.args.text.now) ≡ 0 =
    ap length (sym (c.skip_spaces-else-is_empty.ensures ∙ ap (λ cs. skip_while is_space cs) own.tail_is))
    ∙ eqb-true _ _ (sym c.is_empty-else-is_empty.ensures ∙ c.if-not-is_empty.false) in
    let units : c.from.result ≡ decimal_units (whole_of c.args.text.now) (fraction_of (rest_of c.args.text.now)) =
    c.from.ensures ∙ c.in_ok-units.ensures ∙ ap (λ ds. decimal_units ds c.split_fraction.result.0.now) own.whole_is ∙ ap (λ ds. decimal_units (whole_of c.args.text.now) ds) own.fraction_is in
    let value : signed c.split_sign-negative.result.0 c.from.result ≡ value_of c.args.text.now =
    ap (λ b. signed b c.from.result) own.sign_is ∙ ap (λ n. signed (is_minus (sign_of (number_of c.args.text.now))) n) units in
    reads-checked c.args.text.now c.ok.result c.with_sign.result _ c.ok.ensures.value c.with_sign.ensures
    (spelled-some c.args.text.now some end ∙ ap (λ z. Some z) (sym value))
