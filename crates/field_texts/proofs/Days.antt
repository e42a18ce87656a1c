-- The texts of days.
use Rattle.std.specs.Cmp.{first_so, second_so}
use Rattle.std.proofs.Common.{◌≡◌, ℕ, ◌+◌, ◌*◌, ◌/◌, ◌%◌, ◌-◌, ◌<◌, ◌&&◌, Bool, true, false, List, take, drop, Some, None, refl, ap, ap₂, sym, ◌∙◌, arith, bytes_eq, if◌then◌else◌, Result, Ok, Err}
use Rattle.std.specs.Prelude.{◌↔◌, ℤ, pos, neg_ℤ, ◌≤ℤ◌, int_le}
use Rattle.std.specs.Result.{result_ok}
use Rattle.std.proofs.lemmas.Int.{ints}
use Rattle.jiff_core.specs.Calendar.{days_from_civil}
use Rattle.jiff_core.proofs.CalendarLemmas.{days_in_month_bounds}
use Rattle.std.proofs.lemmas.Slice.Eq.{bytes_eq-Decides}
use Rattle.fx_types.specs.Days.{IsDay}
use Rattle.fx_types.specs.declared.faults.Kind.{Kind}
use Rattle.fx_types.specs.Civil.{civil_of}
use Rattle.fx_types.specs.DateText.{civil_text, date_text}
use Rattle.fx_types.specs.declared.civil.CivilDate.{CivilDate}
use Rattle.fx_types.proofs.CivilDays.{civil_is_date}
use Rattle.field_texts.specs.Spelled.{day_at, day_if, digits_of, spelled_day}

four : (n : ℕ) → n < 10000 → (((0 * 10 + (48 + n / 100 / 10 - 48)) * 10 + (48 + n / 100 % 10 - 48)) * 10 + (48 + n % 100 / 10 - 48)) * 10 + (48 + n % 100 % 10 - 48) ≡ n
four n h = omega (arith, h)

two : (n : ℕ) → n < 100 → (0 * 10 + (48 + n / 10 - 48)) * 10 + (48 + n % 10 - 48) ≡ n
two n h = omega (arith, h)

-- the digits of a date's text are the date
day_at_text : (d : CivilDate) → d.year < 10000 → d.month < 100 → d.day < 100 → day_at (civil_text d) ≡ days_from_civil (pos d.year) d.month d.day
day_at_text d y m t =
    ap (λ n. days_from_civil (pos n) (digits_of (take 2 (drop 5 (civil_text d)))) (digits_of (take 2 (drop 8 (civil_text d))))) (four d.year y)
    ∙ ap₂ (λ n k. days_from_civil (pos d.year) n k) (two d.month m) (two d.day t)

day_is : (z : ℤ) → IsDay z → day_at (date_text z) ≡ z
day_is z h =
    let date = civil_is_date z h in
    let bounds = days_in_month_bounds (pos (civil_of z).year) (civil_of z).month in
    day_at_text (civil_of z) (omega (arith, date.0.0.1)) (omega (arith, date.0.1.1)) (omega (arith, date.0.2.1, bounds.0)) ∙ date.1

le_true : (a b : ℤ) → int_le a b ≡ true → a ≤ℤ b
le_true a b e = grind (arith, ints, e)

true_le : (a b : ℤ) → a ≤ℤ b → int_le a b ≡ true
true_le a b h = grind (arith, ints, h)

pub is_spelled : (z : ℤ) (s : List ℕ) → IsDay z → s ≡ date_text z → spelled_day s ≡ Some z
is_spelled z s h e =
    ap (λ y. day_if y s) (ap day_at e ∙ day_is z h)
    ∙ ap₂ (λ a b. if a && b then Some z else None)
    (ap₂ (λ a b. a && b) (true_le (neg_ℤ (pos 25567)) z h.0) (true_le z (pos 2932896) h.1))
    (ap (λ t. bytes_eq s t) (sym e) ∙ (bytes_eq-Decides s s).1 refl)

none_spelled : (s : List ℕ) → ((z : ℤ) → IsDay z → s ≡ date_text z → ⊥) → spelled_day s ≡ None
none_spelled s none = by (day_at s)
  where
    by : (z : ℤ) → day_if z s ≡ None
    by z = at (int_le (neg_ℤ (pos 25567)) z && int_le z (pos 2932896) && bytes_eq s (date_text z)) refl
      where
        at : (b : Bool) → (int_le (neg_ℤ (pos 25567)) z && int_le z (pos 2932896) && bytes_eq s (date_text z)) ≡ b → (if b then Some z else None) ≡ None
        at true e = absurd (none z (
          le_true (neg_ℤ (pos 25567)) z (first_so (int_le (neg_ℤ (pos 25567)) z) (int_le z (pos 2932896)) (first_so (int_le (neg_ℤ (pos 25567)) z && int_le z (pos 2932896)) (bytes_eq s (date_text z)) e)),
          le_true z (pos 2932896) (second_so (int_le (neg_ℤ (pos 25567)) z) (int_le z (pos 2932896)) (first_so (int_le (neg_ℤ (pos 25567)) z && int_le z (pos 2932896)) (bytes_eq s (date_text z)) e)),
        )
            ((bytes_eq-Decides s (date_text z)).0 (second_so (int_le (neg_ℤ (pos 25567)) z && int_le z (pos 2932896)) (bytes_eq s (date_text z)) e)))
        at false e = refl

-- the day that a text spells, if it spells one
pub spelled_is : (s : List ℕ) (r : Result ℤ Kind) → ((z : ℤ) → (r ≡ Ok z) ↔ (IsDay z × (s ≡ date_text z))) → result_ok r ≡ spelled_day s
spelled_is s (Ok z) h = let k = (h z).0 refl in sym (is_spelled z s k.0 k.1)
spelled_is s (Err e) h = sym (none_spelled s (λ z day text. let k = (h z).1 (day, text) in by z k))
  where
    by : (z : ℤ) → Err e ≡ Ok z → ⊥
    by z k = cc
