-- Where the months of all years begin. The calendar comes round after 400 years, which have 146,097 days.
use Rattle.std.proofs.Common.{◌≡◌, ℕ, zero, suc, ◌+◌, ◌-◌, ◌*◌, ◌/◌, ◌%◌, ◌<◌, nat_eq, nat_lt, cond, [], ◌∷◌, get_or, refl, sym, ap, ◌∙◌, arith, ℤ, pos, negsuc, ◌+ℤ◌, ◌-ℤ◌, ◌*ℤ◌, unsigned_abs}
use Rattle.std.proofs.lemmas.Bool.Decides.{nat_tests}
use Rattle.std.specs.Int.{int_rem_euclid}
use Rattle.jiff_core.specs.Calendar.{days_of_months, day_count, days_from_civil, weekday_number}
use Rattle.jiff_core.specs.March.{march_days}
use Rattle.jiff_core.proofs.SignedLemmas.{signed_arith, int_div_euclid-parts, int_rem_euclid-parts, one_part}
use Rattle.jiff_core.proofs.MarchLemmas.{leap_day, days_in_year-leap_day, march_days-suc, day_count-early}
use Rattle.jiff_core.proofs.CalendarLemmas.{day_count-epoch, days_from_civil-day_count, day_count-day_of_year, days_of_months_table, weekday_number-parts}
use Rattle.std.proofs.lemmas.Bool.{le-ltb}
use Rattle.jiff_core.proofs.DateLemmas.{days_from_civil-day}
use Rattle.fx_types.specs.Days.{IsDay}
use Rattle.fx_types.specs.Civil.{civil_of}
use Rattle.fx_types.proofs.CivilDays.{civil_is_date}
use Rattle.fx_primitives.specs.Dates.{full_year, number_of_parts}
use Rattle.fx_primitives.specs.Months.{year_of, month_of, days_of_years, days_of_earlier_years, year_begin, first_day_of_month}

-- two numbers that are 0 together
same_test : (x y : ℕ) → (x ≡ 0 → y ≡ 0) → (y ≡ 0 → x ≡ 0) → nat_eq x 0 ≡ nat_eq y 0
same_test x y f g = grind (arith, nat_tests)

-- leap years come round after 400 years
leap_cycle : (y c : ℤ) (a : ℕ) → y ≡ (c *ℤ pos 400) +ℤ pos a → leap_day y ≡ leap_day (pos a)
leap_cycle (pos n) (pos k) a e =
    let h : n ≡ 400 * k + a = omega (arith, signed_arith) in
    let four : n % 4 ≡ a % 4 = omega arith in
    let hundred : n % 100 ≡ a % 100 = omega arith in
    let all : n % 400 ≡ a % 400 = omega arith in
    rw (four, hundred, all) refl
leap_cycle (pos n) (negsuc k) a e =
    let h : n + 400 * suc k ≡ a = omega (arith, signed_arith) in
    let four : n % 4 ≡ a % 4 = omega arith in
    let hundred : n % 100 ≡ a % 100 = omega arith in
    let all : n % 400 ≡ a % 400 = omega arith in
    rw (four, hundred, all) refl
leap_cycle (negsuc n) (pos k) a e = absurd (omega (arith, signed_arith))
leap_cycle (negsuc n) (negsuc k) a e =
    let h : suc n + a ≡ 400 * suc k = omega (arith, signed_arith) in
    let four : nat_eq (suc n % 4) 0 ≡ nat_eq (a % 4) 0 = same_test _ _ (λ z. omega arith) (λ z. omega arith) in
    let hundred : nat_eq (suc n % 100) 0 ≡ nat_eq (a % 100) 0 = same_test _ _ (λ z. omega arith) (λ z. omega arith) in
    let all : nat_eq (suc n % 400) 0 ≡ nat_eq (a % 400) 0 = same_test _ _ (λ z. omega arith) (λ z. omega arith) in
    rw (four, hundred, all) refl

years_from : (b : ℕ) → days_of_years (suc b) ≡ march_days b + 366
unfolding days_of_years
years_from zero = refl
years_from (suc n) = omega (arith, years_from n, march_days-suc n, days_in_year-leap_day (pos (suc n)))

march_shift : (b : ℕ) → march_days (b + 400) ≡ march_days b + 146097
march_shift b = omega arith

years_zero : days_of_years 0 ≡ 0
unfolding days_of_years
years_zero = refl

years_closed : (n : ℕ) → days_of_years n + 145731 ≡ march_days (n + 399)
years_closed zero = rw years_zero refl
years_closed (suc b) =
    let e : suc b + 399 ≡ b + 400 = omega arith in
    rw e (omega (arith, years_from b, march_shift b))

earlier_closed : (n : ℕ) → days_of_earlier_years n ≡ march_days n
unfolding days_of_earlier_years
earlier_closed zero = refl
earlier_closed (suc n) = omega (arith, earlier_closed n, march_days-suc n, days_in_year-leap_day (negsuc n))

march_cycle : (n k a : ℕ) → n ≡ 400 * k + a → march_days n ≡ 146097 * k + march_days a
march_cycle n k a h = omega arith

march_back : (n k a : ℕ) → n + a ≡ 400 * k + 399 → march_days n + march_days a ≡ 146097 * k + 145731
march_back n k a h = omega arith

year_begin_cycle : (y c : ℤ) (a : ℕ) → y ≡ (c *ℤ pos 400) +ℤ pos a → year_begin y ≡ (c *ℤ pos 146097) +ℤ pos (days_of_years a)
year_begin_cycle (pos n) (pos k) a e =
    let h : n + 399 ≡ 400 * k + (a + 399) = omega (arith, signed_arith) in
    omega (arith, signed_arith, years_closed n, years_closed a, march_cycle (n + 399) k (a + 399) h)
year_begin_cycle (pos n) (negsuc k) a e =
    let h : a + 399 ≡ 400 * suc k + (n + 399) = omega (arith, signed_arith) in
    omega (arith, signed_arith, years_closed n, years_closed a, march_cycle (a + 399) (suc k) (n + 399) h)
year_begin_cycle (negsuc n) (pos k) a e = absurd (omega (arith, signed_arith))
year_begin_cycle (negsuc n) (negsuc k) a e =
    let h : suc n + (a + 399) ≡ 400 * suc k + 399 = omega (arith, signed_arith) in
    omega (arith, signed_arith, earlier_closed (suc n), years_closed a, march_back (suc n) (suc k) (a + 399) h)

-- years with as many days in February have months of the same lengths
months_alike : (y z : ℤ) (i : ℕ) → i < 12 → leap_day y ≡ leap_day z → days_of_months y i ≡ days_of_months z i
months_alike y z i h l =
    days_of_months_table y i h
    ∙ ap (λ v. get_or (0 ∷ 31 ∷ 59 ∷ 90 ∷ 120 ∷ 151 ∷ 181 ∷ 212 ∷ 243 ∷ 273 ∷ 304 ∷ 334 ∷ []) i 0 + cond (nat_lt 1 i) v 0) l
    ∙ sym (days_of_months_table z i h)

january : (a : ℕ) → day_count (pos a) 1 1 ≡ days_of_years a + 3652425
january a =
    let h : a + 9999 ≡ 400 * 24 + (a + 399) = omega arith in
    omega (arith, day_count-early (pos a) (a + 9999) 1 1 (ap pos (omega arith)) (omega arith) (omega arith) (omega arith), years_closed a, march_cycle (a + 9999) 24 (a + 399) h)

-- the first day of a month of the years 0 to 399
first_of_early : (a i : ℕ) → i < 12 → (pos (days_of_years a) +ℤ pos (days_of_months (pos a) i)) -ℤ pos (days_of_years 1970) ≡ days_from_civil (pos a) (i + 1) 1
first_of_early a i h =
    let back : i + 1 - 1 ≡ i = omega arith in
    let count = rw back at (day_count-day_of_year (pos a) (i + 1) 1 (omega arith)) in
    omega (arith, signed_arith, count, january a, january 1970, day_count-epoch, days_from_civil-day_count (pos a) (i + 1) 1)

-- the first day of a month, so many times 400 years after one of the years 0 to 399
pub first_of-cycle : (m c : ℤ) (r : ℕ) → m ≡ (c *ℤ pos 4800) +ℤ pos r → r < 4800 → first_day_of_month m ≡ (c *ℤ pos 146097) +ℤ days_from_civil (pos (r / 12)) (r % 12 + 1) 1
unfolding first_day_of_month
first_of-cycle m c r e h =
    let year : year_of m ≡ (c *ℤ pos 400) +ℤ pos (r / 12) = omega (arith, signed_arith, int_div_euclid-parts m 12 (omega arith)) in
    let month : month_of m - 1 ≡ r % 12 = omega (arith, signed_arith, int_div_euclid-parts m 12 (omega arith), int_rem_euclid-parts m 12 (omega arith)) in
    let begin = year_begin_cycle (year_of m) c (r / 12) year in
    let months : days_of_months (year_of m) (month_of m - 1) ≡ days_of_months (pos (r / 12)) (r % 12) = rw month (months_alike (year_of m) (pos (r / 12)) (r % 12) (omega arith) (leap_cycle (year_of m) c (r / 12) year)) in
    omega (arith, signed_arith, begin, months, first_of_early (r / 12) (r % 12) (omega arith))

-- the first day of a month of the years from 0 on
first_of_month : (m : ℤ) (a i : ℕ) → m ≡ pos (12 * a + i) → i < 12 → first_day_of_month m ≡ days_from_civil (pos a) (i + 1) 1
unfolding first_day_of_month
first_of_month m a i e h =
    let year : year_of m ≡ pos a = omega (arith, signed_arith, int_div_euclid-parts m 12 (omega arith)) in
    let month : month_of m - 1 ≡ i = omega (arith, signed_arith, int_div_euclid-parts m 12 (omega arith), int_rem_euclid-parts m 12 (omega arith)) in
    rw (year, month) (first_of_early a i h)

-- the day with the year, the month and the day of a day's date is that day
pub parts_give_day : (z : ℤ) → IsDay z → number_of_parts (pos (civil_of z).year) (pos (civil_of z).month) (pos (civil_of z).day) ≡ z
parts_give_day z h =
    let d = civil_of z in
    let is = civil_is_date z h in
    let full : full_year (pos d.year) ≡ pos d.year = rw (le-ltb _ _ is.0.0.0) refl in
    let back : d.month - 1 + 1 ≡ d.month = omega (arith, is.0.1.0) in
    let number : (pos d.year *ℤ pos 12) +ℤ (pos d.month -ℤ pos 1) ≡ pos (12 * d.year + (d.month - 1)) = omega (arith, signed_arith, is.0.1.0) in
    let first = rw back at (first_of_month (pos (12 * d.year + (d.month - 1))) d.year (d.month - 1) refl (omega (arith, is.0.1.1))) in
    let days = days_from_civil-day (pos d.year) d.month d.day 1 is.0.2.0 (omega arith) in
    rw (full, number, first) (omega (arith, signed_arith, is.1, days))

-- Sunday is 1, and 1970-01-01 was a Thursday
pub weekday_is : (z : ℤ) → (weekday_number z + 1) % 7 + 1 ≡ suc (unsigned_abs (int_rem_euclid (z +ℤ pos 4) (pos 7)))
weekday_is z =
    let parts = int_rem_euclid-parts (z +ℤ pos 4) 7 (omega arith) in
    omega (arith, signed_arith, weekday_number-parts z, one_part z)
