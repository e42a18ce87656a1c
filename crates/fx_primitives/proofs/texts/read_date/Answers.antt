use Rattle.std.proofs.Common.{◌≡◌, ◌<◌, ◌≤◌, [], ◌∷◌, length, get_or, arith}
use Rattle.fx_types.specs.DateText.{two_digits}
use Rattle.fx_primitives.proofs.DateTextLemmas.{read_is}
use Rattle.fx_primitives.proofs.texts.read_date.Goals as goal

pub returns : goal.returns
returns c =
    let low : 10 ≤ length c.args.text.now = c.in-len10.len_at_least in
    let high : length c.args.text.now < 11 = c.in-len10.len_below in
    let ten : length c.args.text.now ≡ 10 = omega arith in
    let first : get_or c.args.text.now 4 0 ≡ 45 = c.if-first-ne45.false in
    let second : get_or c.args.text.now 7 0 ≡ 45 = c.if-second-ne45.false in
    let a : (c.in_ok-two_digits.field-0 < 100) × (two_digits c.in_ok-two_digits.field-0 ≡ get_or c.args.text.now 0 0 ∷ get_or c.args.text.now 1 0 ∷ []) = c.in_ok-two_digits.ensures in
    let b : (c.in_ok-two_digits-2.field-0 < 100) × (two_digits c.in_ok-two_digits-2.field-0 ≡ get_or c.args.text.now 2 0 ∷ get_or c.args.text.now 3 0 ∷ []) = c.in_ok-two_digits-2.ensures in
    let m : (c.in_ok-two_digits-3.field-0 < 100) × (two_digits c.in_ok-two_digits-3.field-0 ≡ get_or c.args.text.now 5 0 ∷ get_or c.args.text.now 6 0 ∷ []) = c.in_ok-two_digits-3.ensures in
    let d : (c.in_ok-two_digits-4.field-0 < 100) × (two_digits c.in_ok-two_digits-4.field-0 ≡ get_or c.args.text.now 8 0 ∷ get_or c.args.text.now 9 0 ∷ []) = c.in_ok-two_digits-4.ensures in
    let century : c.from.result ≡ c.in_ok-two_digits.field-0 = c.from.ensures in
    let year : c.from-2.result ≡ c.in_ok-two_digits-2.field-0 = c.from-2.ensures in
    let is = read_is c.args.text.now c.in_ok-two_digits.field-0 c.in_ok-two_digits-2.field-0 c.in_ok-two_digits-3.field-0 c.in_ok-two_digits-4.field-0 ten b.0 a.1 b.1 first m.1 second d.1 in
    rw (century, year) is
