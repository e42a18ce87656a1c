-- What has one answer at most, of the relations that the functions of values are made of.
use Rattle.std.specs.Cmp.{first_so, second_so}
use Rattle.std.proofs.Common.{◌≡◌, ◌≢◌, ◌∙◌, ℕ, ◌/◌, ◌%◌, ◌<◌, Bool, true, false, List, [], ◌∷◌, ◌++◌, length, Contains, arith, ap, subst, sym, refl, inl, inr}
use Rattle.std.specs.Prelude.{ℤ, zero, suc, ◌+ℤ◌, replicate, unwrap_or, codes, pos, negsuc, neg_ℤ, ◌*ℤ◌, ◌≤ℤ◌, ◌⊎◌, ◌↔◌, IsTrue, Option, Some, None, Result, Ok, Err, min}
use Rattle.std.specs.Str.Parse.{AllDigits}
use Rattle.std.specs.Char.{digit_value}
use Rattle.std.proofs.lemmas.Bool.{cases_lt, eqb-true}
use Rattle.std.proofs.lemmas.Int.{ints}
use Rattle.std.proofs.lemmas.List.Elements.{All-contains}
use Rattle.std.proofs.lemmas.List.Folds.{list_all-append}
use Rattle.jiff_core.specs.Calendar.{days_in_month, days_from_civil, IsBetween}
use Rattle.fx_number.specs.Decimal.{Checked, CheckedOnWay, IsExponent, IsPower, IsPowerTo, UnlessZero, ArePowersInRange, power_of, quotient_of}
use Rattle.fx_number.specs.Spelling.{Spells, point_and, sign_text}
use Rattle.fx_number.specs.declared.NumErr.{NumErr}
use Rattle.fx_number.proofs.LeftToRight.{spelled-Spells}
use Rattle.fx_types.specs.declared.faults.Kind.{Kind}
use Rattle.fx_types.specs.Days.{IsDay}
use Rattle.fx_types.specs.Types.{texts}
use Rattle.fx_types.specs.Values.{Data, blank, number, text, boolean, date, rec, tab, fault}
use Rattle.fx_value.specs.Coercion.{IsCoerced, IsReadAs, are_spaces, field_or_blank}
use Rattle.fx_types.specs.Civil.{civil_of}
use Rattle.fx_types.proofs.CivilDays.{civil_is_date}
use Rattle.fx_types.specs.declared.formats.TimeUnit.{TimeUnit}
use Rattle.fx_types.specs.declared.formats.TimeUnit.TheVariants.{Days, Months, Quarters, Years}
use Rattle.fx_primitives.specs.Dates.{IsDayOrInvalid, IsInMonth, IsInMonthOrInvalid, IsDayLater, IsShifted}
use Rattle.fx_primitives.specs.Months.{year_of, month_of, month_number}
use Rattle.fx_primitives.specs.Numbers.{AsKind, with_kind}
use Rattle.fx_primitives.specs.Folds.{IsGreatest, IsLeast, IsSum}
use Rattle.fx_primitives.specs.Search.{IsFirstPlace, IsFound, IsFoundFrom, position_of}
use Rattle.fx_primitives.specs.Substitution.{IsSubstituted, substitute_of}
use Rattle.fx_primitives.proofs.Replacing.{one_list, trichotomy}
use Rattle.fx_scalar.specs.Errors.{IsErrorOf, error_of}
use Rattle.fx_scalar.specs.Answers.{IsPosition, IsWholeNumber, OfDate, number_answer}
use Rattle.fx_scalar.specs.ScalarFunctions.{IsDateRead}

-- at most one value has the property
abbrev pub AtMostOne : {X : Type 0} → (X → Type 0) → Type 0
AtMostOne {X = X} P = (r s : X) → P r → P s → r ≡ s

-- ---- numbers
pub checked_one : (z : ℤ) → AtMostOne (Checked z)
checked_one z (Ok m) (Ok n) h k = ap Ok (h.0 ∙ sym k.0)
checked_one z (Ok m) (Err e) h k = absurd (k.1 h.1)
checked_one z (Err e) (Ok n) h k = absurd (h.1 k.1)
checked_one z (Err d) (Err e) h k = ap Err (h.0 ∙ sym k.0)

on_way_one : (P : Type 0) (z : ℤ) → AtMostOne (CheckedOnWay P z)
on_way_one P z (Ok m) (Ok n) h k = ap Ok (h.0 ∙ sym k.0)
on_way_one P z (Ok m) (Err e) h k = absurd (k.1 (h.1, h.2))
on_way_one P z (Err e) (Ok n) h k = absurd (h.1 (k.1, k.2))
on_way_one P z (Err d) (Err e) h k = ap Err (h.0 ∙ sym k.0)

above_zero : (n : ℕ) → pos (suc n) ≢ pos 0
above_zero n e = omega (arith, ints)

below_zero : (n : ℕ) → negsuc n ≢ pos 0
below_zero n e = cc

pub unless_zero_one : (d : ℤ) (P : Result ℤ NumErr → Type 0) → AtMostOne P → AtMostOne (UnlessZero d P)
unless_zero_one (pos zero) P one r s h k = h.0 refl ∙ sym (k.0 refl)
unless_zero_one (pos (suc n)) P one r s h k = one r s (h.1 (above_zero n)) (k.1 (above_zero n))
unless_zero_one (negsuc n) P one r s h k = one r s (h.1 (below_zero n)) (k.1 (below_zero n))

power_to_one : (a e : ℤ) → AtMostOne (IsPowerTo a e)
power_to_one a (pos n) = on_way_one (ArePowersInRange a n) (power_of a n)
power_to_one a (negsuc n) =
    let power = power_of a (suc n) in
    unless_zero_one power _ (on_way_one (ArePowersInRange a (suc n)) (quotient_of (pos 10000) power))

-- a number is an exponent, or none is it
exponent : (b : ℤ) → ((e : ℤ) × IsExponent b e) ⊎ ((e : ℤ) → ¬ IsExponent b e)
exponent (pos n) = elim (cases_lt 0 (n % 10000)) [
  | inl part ↦ inr (λ e h. omega (arith, ints))
  | inr none ↦ elim (cases_lt 1000 (n / 10000)) [
    | inl great ↦ inr (λ e h. omega (arith, ints))
    | inr small ↦ inl (pos (n / 10000), (omega (arith, ints), omega (arith, ints), omega (arith, ints)))
  ]
]
exponent (negsuc n) = elim (cases_lt 0 (suc n % 10000)) [
  | inl part ↦ inr (λ e h. omega (arith, ints))
  | inr none ↦ elim (cases_lt 1000 (suc n / 10000)) [
    | inl great ↦ inr (λ e h. omega (arith, ints))
    | inr small ↦ inl (neg_ℤ (pos (suc n / 10000)), (omega (arith, ints), omega (arith, ints), omega (arith, ints)))
  ]
]

pub power_one : (a b : ℤ) → AtMostOne (IsPower a b)
power_one a b r s h k = elim (exponent b) [
  | inl p ↦ power_to_one a p.0 r s (h.0 p.0 p.1) (k.0 p.0 p.1)
  | inr none ↦ h.1 none ∙ sym (k.1 none)
]

pub as_kind_one : (P : Result ℤ NumErr → Type 0) → AtMostOne P → AtMostOne (AsKind P)
as_kind_one P one r s h k = h.2 ∙ ap with_kind (one h.0 k.0 h.1 k.1) ∙ sym k.2

pub sum_one : (zs : List ℤ) → AtMostOne (IsSum zs)
sum_one [] r s h k = h ∙ sym k
sum_one (z ∷ zs) (Ok m) (Ok n) h k = ap Ok (h.0 ∙ sym k.0)
sum_one (z ∷ zs) (Ok m) (Err e) h k = absurd (k.1 h.1)
sum_one (z ∷ zs) (Err e) (Ok n) h k = absurd (h.1 k.1)
sum_one (z ∷ zs) (Err d) (Err e) h k = ap Err (h.0 ∙ sym k.0)

-- an empty list has no element
none_in_empty : (zs : List ℤ) (m : ℤ) → zs ≡ [] → Contains zs m → ⊥
none_in_empty zs m e h = let l : h.0 < length zs = h.1 in let n : length zs ≡ 0 = ap length e in omega arith

pub least_one : (zs : List ℤ) → AtMostOne (IsLeast zs)
least_one zs None None h k = refl
least_one zs None (Some n) h k = absurd (none_in_empty zs n h k.0)
least_one zs (Some m) None h k = absurd (none_in_empty zs m k h.0)
least_one zs (Some m) (Some n) h k =
    let low : m ≤ℤ n = All-contains (λ z. m ≤ℤ z) zs n h.1 k.0 in
    let high : n ≤ℤ m = All-contains (λ z. n ≤ℤ z) zs m k.1 h.0 in
    let e : m ≡ n = omega (arith, ints) in
    ap Some e

pub greatest_one : (zs : List ℤ) → AtMostOne (IsGreatest zs)
greatest_one zs None None h k = refl
greatest_one zs None (Some n) h k = absurd (none_in_empty zs n h k.0)
greatest_one zs (Some m) None h k = absurd (none_in_empty zs m k h.0)
greatest_one zs (Some m) (Some n) h k =
    let low : n ≤ℤ m = All-contains (λ z. z ≤ℤ m) zs n h.1 k.0 in
    let high : m ≤ℤ n = All-contains (λ z. z ≤ℤ n) zs m k.1 h.0 in
    let e : m ≡ n = omega (arith, ints) in
    ap Some e

-- ---- spelled numbers
head_spaces : (xs ys : List ℕ) → are_spaces (xs ++ ys) ≡ true → are_spaces xs ≡ true
head_spaces xs ys h = first_so (are_spaces xs) (are_spaces ys) (sym (list_all-append _ xs ys) ∙ h)

tail_spaces : (xs ys : List ℕ) → are_spaces (xs ++ ys) ≡ true → are_spaces ys ≡ true
tail_spaces xs ys h = second_so (are_spaces xs) (are_spaces ys) (sym (list_all-append _ xs ys) ∙ h)

-- spaces are no digits
no_digits : (ds : List ℕ) → 0 < length ds → AllDigits 10 ds → are_spaces ds ≡ true → ⊥
no_digits [] h k e = omega arith
no_digits (d ∷ ds) h k e =
    let space : d ≡ 32 = eqb-true d 32 (first_so _ (are_spaces ds) e) in
    let digit : digit_value 32 < 10 = subst (λ c. digit_value c < 10) space k.0 in
    omega arith

no_spaces : (bs : List ℕ) (z : ℤ) → Spells bs z → are_spaces bs ≡ true → ⊥
no_spaces bs z h e =
    let d = h.is_decimal in
    let behind = h.digits ++ replicate h.after 32 in
    let all : are_spaces (replicate h.before 32 ++ (sign_text h.sign ++ behind)) ≡ true = subst (λ cs. are_spaces cs ≡ true) h.is_text e in
    let digits : are_spaces h.digits ≡ true = head_spaces h.digits (replicate h.after 32) (tail_spaces (sign_text h.sign) behind (tail_spaces (replicate h.before 32) (sign_text h.sign ++ behind) all)) in
    let whole : are_spaces (h.whole ++ point_and h.fraction) ≡ true = subst (λ cs. are_spaces cs ≡ true) d.is_text digits in
    no_digits h.whole d.has_whole.0 d.has_whole.1 (head_spaces h.whole (point_and h.fraction) whole)

spelled_one : (bs : List ℕ) (z w : ℤ) → Spells bs z → Spells bs w → z ≡ w
spelled_one bs z w h k = ap (λ o. unwrap_or o z) (sym (spelled-Spells bs z h) ∙ spelled-Spells bs w k)

true_false : (b : Bool) → b ≡ true → b ≡ false → ⊥
true_false b h k = let e : true ≡ false = sym h ∙ k in absurd (cc)

pub read_one : (bs : List ℕ) → AtMostOne (IsReadAs bs)
read_one bs blank blank h k = refl
read_one bs blank (number w) h k = absurd (no_spaces bs w k.0 h)
read_one bs blank (fault j cs) h k = absurd (true_false (are_spaces bs) h k.2)
read_one bs blank s h k = absurd k
read_one bs (number z) blank h k = absurd (no_spaces bs z h.0 k)
read_one bs (number z) (number w) h k = ap number (spelled_one bs z w h.0 k.0)
read_one bs (number z) (fault j cs) h k = absurd (k.3 z h.1 h.0)
read_one bs (number z) s h k = absurd k
read_one bs (fault i cs) blank h k = absurd (true_false (are_spaces bs) k h.2)
read_one bs (fault i cs) (number w) h k = absurd (h.3 w k.1 k.0)
read_one bs (fault i cs) (fault j ds) h k = let e = h.0 ∙ sym k.0 in let m = h.1 ∙ sym k.1 in λ x. fault (e x) (m x)
read_one bs (fault i cs) s h k = absurd k
read_one bs r s h k = absurd h

-- ---- dates
pub shifted_one : (z units : ℤ) → AtMostOne (IsShifted z units)
shifted_one z units (Ok d) (Ok e) h k =
    let same : d *ℤ pos 10000 ≡ e *ℤ pos 10000 = h.1 ∙ sym k.1 in
    let day : d ≡ e = omega (arith, ints) in
    ap Ok day
shifted_one z units (Ok d) (Err e) h k = absurd (k.1 d h.0 h.1)
shifted_one z units (Err d) (Ok e) h k = absurd (h.1 e k.0 k.1)
shifted_one z units (Err d) (Err e) h k = ap Err (h.0 ∙ sym k.0)

pub day_one : (z : ℤ) → AtMostOne (IsDayOrInvalid z)
day_one z (Ok d) (Ok e) h k = ap Ok (h.0 ∙ sym k.0)
day_one z (Ok d) (Err e) h k = absurd (k.1 h.1)
day_one z (Err d) (Ok e) h k = absurd (h.1 k.1)
day_one z (Err d) (Err e) h k = ap Err (h.0 ∙ sym k.0)

day_in_month : (m : ℤ) (place : ℕ) (d : ℤ) → IsDay d → IsInMonth m place d
    → d ≡ days_from_civil (year_of m) (month_of m) (min place (days_in_month (year_of m) (month_of m)))
day_in_month m place d h k =
    let year = k.0 in
    let month = k.1 in
    let day = k.2 in
    sym (civil_is_date d h).1 ∙ rw (year, month, day) refl

year_in_range : (m : ℤ) (place : ℕ) (d : ℤ) → IsDay d → IsInMonth m place d → IsBetween (pos 1900) (pos 9999) (year_of m)
year_in_range m place d h k =
    let range = (civil_is_date d h).0.0 in
    let year : IsBetween (pos 1900) (pos 9999) (pos (civil_of d).year) = (omega (arith, ints, range), omega (arith, ints, range)) in
    subst (λ y. IsBetween (pos 1900) (pos 9999) y) k.0 year

in_month_one : (m : ℤ) (place : ℕ) → AtMostOne (IsInMonthOrInvalid m place)
in_month_one m place (Ok d) (Ok e) h k = ap Ok (day_in_month m place d h.0 h.1 ∙ sym (day_in_month m place e k.0 k.1))
in_month_one m place (Ok d) (Err e) h k = absurd (k.1 (year_in_range m place d h.0 h.1))
in_month_one m place (Err d) (Ok e) h k = absurd (h.1 (year_in_range m place e k.0 k.1))
in_month_one m place (Err d) (Err e) h k = ap Err (h.0 ∙ sym k.0)

pub later_one : (u : TimeUnit) (z n : ℤ) → AtMostOne (IsDayLater u z n)
later_one Days z n = day_one (z +ℤ n)
later_one Months z n = in_month_one (pos (month_number (civil_of z)) +ℤ n) (civil_of z).day
later_one Quarters z n = in_month_one (pos (month_number (civil_of z)) +ℤ (n *ℤ pos 3)) (civil_of z).day
later_one Years z n = in_month_one (pos (month_number (civil_of z)) +ℤ (n *ℤ pos 12)) (civil_of z).day

pub date_read_one : (bs : List ℕ) → AtMostOne (IsDateRead bs)
date_read_one bs (Ok z) s h k = sym ((k.0 z).1 ((h.0 z).0 refl))
date_read_one bs (Err d) (Ok z) h k = (h.0 z).1 ((k.0 z).0 refl)
date_read_one bs (Err d) (Err e) h k = ap Err (h.1 ∙ sym k.1)

-- ---- texts
first_one : (part all : List ℕ) (from p q : ℕ) → IsFirstPlace part all from p → IsFirstPlace part all from q → p ≡ q
first_one part all from p q h k = elim (trichotomy p q) [
  | inl l ↦ absurd (k.first p h.behind l h.stands)
  | inr (inl e) ↦ e
  | inr (inr l) ↦ absurd (h.first q k.behind l k.stands)
]

found_from_one : (part all : List ℕ) (from : ℕ) → AtMostOne (IsFoundFrom part all from)
found_from_one part all from None None h k = refl
found_from_one part all from None (Some q) h k = absurd (h q k.behind k.stands)
found_from_one part all from (Some p) None h k = absurd (k p h.behind h.stands)
found_from_one part all from (Some p) (Some q) h k = ap Some (first_one part all from p q h k)

same_start : (start : ℤ) (m n : ℕ) → start ≡ pos (suc m) → start ≡ pos (suc n) → m ≡ n
same_start start m n h k = omega (arith, ints)

pub found_one : (part all : List ℕ) (start : ℤ) → AtMostOne (IsFound part all start)
found_one part all start (Ok f) (Ok g) h k =
    let from = same_start start h.0 k.0 h.2.0 k.2.0 in
    let place = found_from_one part all k.0 h.1 k.1 (subst (λ x. IsFoundFrom part all x h.1) from h.3) k.3 in
    ap Ok (h.4 ∙ ap position_of place ∙ sym k.4)
found_one part all start (Ok f) (Err e) h k = absurd (k.1 h.0 h.2)
found_one part all start (Err d) (Ok g) h k = absurd (h.1 k.0 k.2)
found_one part all start (Err d) (Err e) h k = ap Err (h.0 ∙ sym k.0)

pub substituted_one : (all old new : List ℕ) (which : Option ℤ) → AtMostOne (IsSubstituted all old new which)
substituted_one all old new which r s h k =
    h.2 ∙ ap (λ ps. substitute_of (length old) new all ps which) (one_list old all h.0 k.0 h.1 k.1) ∙ sym k.2

-- ---- answers
pub truth_one : (P : Type 0) → AtMostOne (λ b. IsTrue b ↔ P)
truth_one P true true h k = refl
truth_one P true false h k = sym (k.1 (h.0 refl))
truth_one P false true h k = h.1 (k.0 refl)
truth_one P false false h k = refl

pub equal_one : {X : Type 0} (x : X) → AtMostOne (λ q. q ≡ x)
equal_one x r s h k = h ∙ sym k

pub answer_one : {X : Type 0} (f : X → Data) (P : X → Type 0) → AtMostOne P → AtMostOne (λ r. (q : X) × P q × (r ≡ f q))
answer_one f P one r s h k = h.2 ∙ ap f (one h.0 k.0 h.1 k.1) ∙ sym k.2

pub of_date_one : (o : Option ℤ) (P : ℤ → Data → Type 0) → ((z : ℤ) → AtMostOne (P z)) → AtMostOne (OfDate o P)
of_date_one None P one r s h k = h ∙ sym k
of_date_one (Some z) P one r s h k = one z r s h k

pub whole_one : (n : ℤ) → AtMostOne (IsWholeNumber n)
whole_one n = answer_one number_answer _ (as_kind_one _ (checked_one (n *ℤ pos 10000)))

pub position_one : (q : Result (Option ℕ) Kind) → AtMostOne (IsPosition q)
position_one (Ok None) r s h k = h ∙ sym k
position_one (Ok (Some n)) r s h k = whole_one (pos n) r s h k
position_one (Err e) r s h k = h ∙ sym k

-- ---- errors
text_one : (d : Data) → AtMostOne (IsCoerced d texts)
text_one blank r s h k = h ∙ sym k
text_one (number z) r s h k = h ∙ sym k
text_one (text cs) r s h k = h ∙ sym k
text_one (boolean b) r s h k = h ∙ sym k
text_one (date z) r s h k = h ∙ sym k
text_one (rec fs) r s h k = h ∙ sym k
text_one (tab rs) r s h k = h ∙ sym k
text_one (fault e cs) r s h k = h ∙ sym k

pub error_one : (d : Data) → AtMostOne (IsErrorOf d)
error_one (rec fs) r s h k =
    h.4 ∙ ap (λ x. error_of x h.1) (text_one (field_or_blank (codes "Kind") fs) h.0 k.0 h.2 k.2)
    ∙ ap (error_of k.0) (text_one (field_or_blank (codes "Message") fs) h.1 k.1 h.3 k.3) ∙ sym k.4
error_one d r s h k = h ∙ sym k
