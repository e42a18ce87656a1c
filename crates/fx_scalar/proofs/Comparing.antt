-- Arguments that fit their places can be compared.
use Rattle.std.proofs.Common.{◌≡◌, ℕ, ◌<◌, ◌≤◌, Bool, true, false, List, [], ◌∷◌, length, ap, refl, inl, inr}
use Rattle.std.specs.Prelude.{ℤ, zero, suc, ◌⊎◌, None, unwrap_or}
use Rattle.std.proofs.lemmas.Bool.{cases_lt}
use Rattle.std.proofs.lemmas.Option.{slice_get_past}
use Rattle.fx_types.specs.Types.{Shape, numbers, texts, booleans, dates}
use Rattle.fx_types.specs.Values.{Data, blank, number, text, boolean, date, fault}
use Rattle.fx_types.specs.declared.comparisons.Cmp.{Cmp}
use Rattle.fx_types.specs.declared.comparisons.Cmp.TheVariants.{Eq, Ne, Lt, Le, Gt, Ge}
use Rattle.fx_value.specs.Order.{AreOfOneType}
use Rattle.fx_value.specs.Operators.{AreOrdered, CanCompare}
use Rattle.fx_value.specs.Fits.{fits_in}
use Rattle.fx_core.specs.declared.functions.Fun.{Fun}
use Rattle.fx_core.specs.declared.functions.Fun.TheVariants as fun
use Rattle.fx_scalar.specs.Arguments.{argument_at, first_fault}
use Rattle.fx_scalar.specs.ScalarFunctions.{CanCompareIf, answered_fault, comparison_of, is_fault}
use Rattle.fx_scalar.specs.Fitting.{FitPlaces, FittingCanApply}

-- behind the last argument stands a blank one
pub at_past : (a : List Data) (i : ℕ) → length a ≤ i → argument_at a i ≡ blank
at_past a i h = ap (λ o. unwrap_or o blank) (slice_get_past a i h)

-- what fits as an argument also fits where there is none
pub fits_at : (a : List Data) (i : ℕ) (t : Shape) → (i < length a → fits_in (argument_at a i) t ≡ true) → fits_in (argument_at a i) t ≡ true
fits_at a i t h = elim (cases_lt i (length a)) [ inl l ↦ h l | inr g ↦ rw (at_past a i g) refl ]

-- where no argument is an error, none stands at a place
pub no_fault_at : (a : List Data) (i : ℕ) → first_fault a ≡ None → is_fault (argument_at a i) ≡ false
no_fault_at [] zero h = refl
no_fault_at [] (suc i) h = refl
no_fault_at (fault k cs ∷ ds) i h = absurd (cc)
no_fault_at (d ∷ ds) zero h = refl
no_fault_at (d ∷ ds) (suc i) h = no_fault_at ds i h

-- a blank value, or a number
abbrev number_or_blank : Data → Type 0
number_or_blank d = (d ≡ blank) ⊎ ((z : ℤ) × (d ≡ number z))

as_number : (d : Data) → fits_in d numbers ≡ true → is_fault d ≡ false → number_or_blank d
as_number blank h n = inl refl
as_number (number z) h n = inr (z, refl)
as_number d h n = absurd (cc)

-- a blank value, or a text
abbrev text_or_blank : Data → Type 0
text_or_blank d = (d ≡ blank) ⊎ ((cs : List ℕ) × (d ≡ text cs))

as_text : (d : Data) → fits_in d texts ≡ true → is_fault d ≡ false → text_or_blank d
as_text blank h n = inl refl
as_text (text cs) h n = inr (cs, refl)
as_text d h n = absurd (cc)

-- a blank value, or a Boolean
abbrev truth_or_blank : Data → Type 0
truth_or_blank d = (d ≡ blank) ⊎ ((b : Bool) × (d ≡ boolean b))

as_truth : (d : Data) → fits_in d booleans ≡ true → is_fault d ≡ false → truth_or_blank d
as_truth blank h n = inl refl
as_truth (boolean b) h n = inr (b, refl)
as_truth d h n = absurd (cc)

-- a blank value, or a date
abbrev date_or_blank : Data → Type 0
date_or_blank d = (d ≡ blank) ⊎ ((z : ℤ) × (d ≡ date z))

as_date : (d : Data) → fits_in d dates ≡ true → is_fault d ≡ false → date_or_blank d
as_date blank h n = inl refl
as_date (date z) h n = inr (z, refl)
as_date d h n = absurd (cc)

texts_compare : (d e : Data) → text_or_blank d → text_or_blank e → AreOfOneType d e
texts_compare d e (inl p) (inl q) = rw (p, q) tt
texts_compare d e (inl p) (inr q) = rw (p, q.1) tt
texts_compare d e (inr p) (inl q) = rw (p.1, q) tt
texts_compare d e (inr p) (inr q) = rw (p.1, q.1) tt

truths_compare : (d e : Data) → truth_or_blank d → truth_or_blank e → AreOfOneType d e
truths_compare d e (inl p) (inl q) = rw (p, q) tt
truths_compare d e (inl p) (inr q) = rw (p, q.1) tt
truths_compare d e (inr p) (inl q) = rw (p.1, q) tt
truths_compare d e (inr p) (inr q) = rw (p.1, q.1) tt

numbers_compare : (d e : Data) → number_or_blank d → number_or_blank e → AreOfOneType d e × AreOrdered d e
numbers_compare d e (inl p) (inl q) = rw (p, q) (tt, tt)
numbers_compare d e (inl p) (inr q) = rw (p, q.1) (tt, tt)
numbers_compare d e (inr p) (inl q) = rw (p.1, q) (tt, tt)
numbers_compare d e (inr p) (inr q) = rw (p.1, q.1) (tt, tt)

dates_compare : (d e : Data) → date_or_blank d → date_or_blank e → AreOfOneType d e × AreOrdered d e
dates_compare d e (inl p) (inl q) = rw (p, q) (tt, tt)
dates_compare d e (inl p) (inr q) = rw (p, q.1) (tt, tt)
dates_compare d e (inr p) (inl q) = rw (p.1, q) (tt, tt)
dates_compare d e (inr p) (inr q) = rw (p.1, q.1) (tt, tt)

-- what is ordered is compared by every operator
by_order : (op : Cmp) (d e : Data) → AreOfOneType d e × AreOrdered d e → CanCompare op d e
by_order Eq d e h = h.0
by_order Ne d e h = h.0
by_order Lt d e h = h.1
by_order Le d e h = h.1
by_order Gt d e h = h.1
by_order Ge d e h = h.1

two_numbers : (a : List Data) → first_fault a ≡ None → (0 < length a → fits_in (argument_at a 0) numbers ≡ true) → (1 < length a → fits_in (argument_at a 1) numbers ≡ true) → AreOfOneType (argument_at a 0) (argument_at a 1) × AreOrdered (argument_at a 0) (argument_at a 1)
two_numbers a n h k =
    numbers_compare (argument_at a 0) (argument_at a 1) (as_number (argument_at a 0) (fits_at a 0 numbers h) (no_fault_at a 0 n)) (as_number (argument_at a 1) (fits_at a 1 numbers k) (no_fault_at a 1 n))

two_texts : (a : List Data) → first_fault a ≡ None → (0 < length a → fits_in (argument_at a 0) texts ≡ true) → (1 < length a → fits_in (argument_at a 1) texts ≡ true) → AreOfOneType (argument_at a 0) (argument_at a 1)
two_texts a n h k =
    texts_compare (argument_at a 0) (argument_at a 1) (as_text (argument_at a 0) (fits_at a 0 texts h) (no_fault_at a 0 n)) (as_text (argument_at a 1) (fits_at a 1 texts k) (no_fault_at a 1 n))

two_booleans : (a : List Data) → first_fault a ≡ None → (0 < length a → fits_in (argument_at a 0) booleans ≡ true) → (1 < length a → fits_in (argument_at a 1) booleans ≡ true) → AreOfOneType (argument_at a 0) (argument_at a 1)
two_booleans a n h k =
    truths_compare (argument_at a 0) (argument_at a 1) (as_truth (argument_at a 0) (fits_at a 0 booleans h) (no_fault_at a 0 n)) (as_truth (argument_at a 1) (fits_at a 1 booleans k) (no_fault_at a 1 n))

two_dates : (a : List Data) → first_fault a ≡ None → (0 < length a → fits_in (argument_at a 0) dates ≡ true) → (1 < length a → fits_in (argument_at a 1) dates ≡ true) → AreOfOneType (argument_at a 0) (argument_at a 1) × AreOrdered (argument_at a 0) (argument_at a 1)
two_dates a n h k =
    dates_compare (argument_at a 0) (argument_at a 1) (as_date (argument_at a 0) (fits_at a 0 dates h) (no_fault_at a 0 n)) (as_date (argument_at a 1) (fits_at a 1 dates k) (no_fault_at a 1 n))

-- the places of a function that compares take two values of one type
compares : (f : Fun) (a : List Data) → FitPlaces f a → answered_fault f a ≡ None → CanCompareIf (comparison_of f) a
compares fun.EqualNumbers a h n = by_order Eq (argument_at a 0) (argument_at a 1) (two_numbers a n (h 0) (h 1))
compares fun.EqualTexts a h n = two_texts a n (h 0) (h 1)
compares fun.EqualBooleans a h n = two_booleans a n (h 0) (h 1)
compares fun.EqualDates a h n = by_order Eq (argument_at a 0) (argument_at a 1) (two_dates a n (h 0) (h 1))
compares fun.UnequalNumbers a h n = by_order Ne (argument_at a 0) (argument_at a 1) (two_numbers a n (h 0) (h 1))
compares fun.UnequalTexts a h n = two_texts a n (h 0) (h 1)
compares fun.UnequalBooleans a h n = two_booleans a n (h 0) (h 1)
compares fun.UnequalDates a h n = by_order Ne (argument_at a 0) (argument_at a 1) (two_dates a n (h 0) (h 1))
compares fun.LessNumbers a h n = by_order Lt (argument_at a 0) (argument_at a 1) (two_numbers a n (h 0) (h 1))
compares fun.LessDates a h n = by_order Lt (argument_at a 0) (argument_at a 1) (two_dates a n (h 0) (h 1))
compares fun.LessEqualNumbers a h n = by_order Le (argument_at a 0) (argument_at a 1) (two_numbers a n (h 0) (h 1))
compares fun.LessEqualDates a h n = by_order Le (argument_at a 0) (argument_at a 1) (two_dates a n (h 0) (h 1))
compares fun.GreaterNumbers a h n = by_order Gt (argument_at a 0) (argument_at a 1) (two_numbers a n (h 0) (h 1))
compares fun.GreaterDates a h n = by_order Gt (argument_at a 0) (argument_at a 1) (two_dates a n (h 0) (h 1))
compares fun.GreaterEqualNumbers a h n = by_order Ge (argument_at a 0) (argument_at a 1) (two_numbers a n (h 0) (h 1))
compares fun.GreaterEqualDates a h n = by_order Ge (argument_at a 0) (argument_at a 1) (two_dates a n (h 0) (h 1))
compares f a h n = tt

pub fitting_applies : FittingCanApply
fitting_applies f a v h = record { of_values = v; comparable = compares f a h }
