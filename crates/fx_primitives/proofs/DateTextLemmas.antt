-- The texts of dates tell dates apart.
use Rattle.std.proofs.Common.{◌≡◌, ◌↔◌, ℕ, ◌+◌, ◌*◌, ◌/◌, ◌%◌, ◌<◌, List, [], ◌∷◌, length, get_or, refl, sym, ap, ◌∙◌, arith, ℤ, pos, Option, Some, None, Ok, MatchOption}
use Rattle.std.specs.Option.{ok_or}
use Rattle.jiff_core.specs.Calendar.{days_from_civil}
use Rattle.fx_types.specs.Days.{IsDay}
use Rattle.fx_types.specs.declared.faults.Kind.TheVariants.{InvalidArgument}
use Rattle.fx_types.specs.Civil.{civil_of, IsCalendarDate}
use Rattle.fx_types.specs.DateText.{two_digits, civil_text, date_text}
use Rattle.fx_types.specs.declared.civil.CivilDate.{CivilDate}
use Rattle.fx_types.proofs.CivilDays.{civil_is_date}

-- a list of ten is its elements
ten : (t : List ℕ) → length t ≡ 10 → t ≡ get_or t 0 0 ∷ get_or t 1 0 ∷ get_or t 2 0 ∷ get_or t 3 0 ∷ get_or t 4 0 ∷ get_or t 5 0 ∷ get_or t 6 0 ∷ get_or t 7 0 ∷ get_or t 8 0 ∷ get_or t 9 0 ∷ []
ten [] h = absurd (omega arith)
ten (a ∷ []) h = absurd (omega arith)
ten (a ∷ b ∷ []) h = absurd (omega arith)
ten (a ∷ b ∷ c ∷ []) h = absurd (omega arith)
ten (a ∷ b ∷ c ∷ d ∷ []) h = absurd (omega arith)
ten (a ∷ b ∷ c ∷ d ∷ e ∷ []) h = absurd (omega arith)
ten (a ∷ b ∷ c ∷ d ∷ e ∷ f ∷ []) h = absurd (omega arith)
ten (a ∷ b ∷ c ∷ d ∷ e ∷ f ∷ g ∷ []) h = absurd (omega arith)
ten (a ∷ b ∷ c ∷ d ∷ e ∷ f ∷ g ∷ i ∷ []) h = absurd (omega arith)
ten (a ∷ b ∷ c ∷ d ∷ e ∷ f ∷ g ∷ i ∷ j ∷ []) h = absurd (omega arith)
ten (a ∷ b ∷ c ∷ d ∷ e ∷ f ∷ g ∷ i ∷ j ∷ k ∷ []) h = refl
ten (a ∷ b ∷ c ∷ d ∷ e ∷ f ∷ g ∷ i ∷ j ∷ k ∷ l ∷ t) h = absurd (omega arith)

-- ten bytes with digits and dashes in their places are the text of a date
pub read_is : (t : List ℕ) (a b m d : ℕ) → length t ≡ 10 → b < 100
    → two_digits a ≡ get_or t 0 0 ∷ get_or t 1 0 ∷ [] → two_digits b ≡ get_or t 2 0 ∷ get_or t 3 0 ∷ [] → get_or t 4 0 ≡ 45
    → two_digits m ≡ get_or t 5 0 ∷ get_or t 6 0 ∷ [] → get_or t 7 0 ≡ 45 → two_digits d ≡ get_or t 8 0 ∷ get_or t 9 0 ∷ []
    → t ≡ civil_text (record { year = a * 100 + b; month = m; day = d })
read_is t a b m d l h ea eb p em q ed =
    let century : (a * 100 + b) / 100 ≡ a = omega arith in
    let rest : (a * 100 + b) % 100 ≡ b = omega arith in
    let is = ten t l in
    rw (century, rest) (cc (is, ea, eb, p, em, q, ed))

text_tells : (a b : CivilDate) → civil_text a ≡ civil_text b → a ≡ b
text_tells a b e =
    let at : (k : ℕ) → get_or (civil_text a) k 0 ≡ get_or (civil_text b) k 0 = λ k. ap (λ (t : List ℕ). get_or t k 0) e in
    let year : a.year ≡ b.year = omega (arith, at 0, at 1, at 2, at 3) in
    let month : a.month ≡ b.month = omega (arith, at 5, at 6) in
    let day : a.day ≡ b.day = omega (arith, at 8, at 9) in
    λ i. record { year = year i; month = month i; day = day i }

-- days with one date are the same
civil_tells : (z w : ℤ) → IsDay z → IsDay w → civil_of z ≡ civil_of w → z ≡ w
civil_tells z w p q e = sym (civil_is_date z p).1 ∙ ap (λ (c : CivilDate). days_from_civil (pos c.year) c.month c.day) e ∙ (civil_is_date w q).1

-- the day of a date whose text is t answers exactly where t is a day's text
pub value_is : (o : Option ℤ) (d : CivilDate) (t : List ℕ) → MatchOption o (¬ IsCalendarDate d) (λ w. IsDay w × (civil_of w ≡ d)) → t ≡ civil_text d
    → (z : ℤ) → (ok_or o InvalidArgument ≡ Ok z) ↔ (IsDay z × (t ≡ date_text z))
value_is None d t h e z =
    (λ no. cc, λ p. let same : d ≡ civil_of z = text_tells d (civil_of z) (sym e ∙ p.1) in absurd (h (rw same (civil_is_date z p.0).0)))
value_is (Some w) d t h e z = (
  λ is. let same : w ≡ z = cc in rw (← same) (h.0, e ∙ ap civil_text (sym h.1)),
  λ p. let same : d ≡ civil_of z = text_tells d (civil_of z) (sym e ∙ p.1) in ap Ok (civil_tells w z h.0 p.0 (h.1 ∙ same)),
)
