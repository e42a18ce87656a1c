-- What texts spell: a number, a day and a truth value.
use Rattle.std.specs.Prelude.{ℕ, ◌+◌, ◌-◌, ◌*◌, ◌&&◌, ℤ, pos, neg_ℤ, int_le, List, take, drop, codes}
use Rattle.std.specs.Prelude.{bytes_eq, Bool, true, false, Option, Some, None, option_and_then}
use Rattle.std.specs.Prelude.{if◌then◌else◌}
use Rattle.std.specs.List.{fold}
use Rattle.jiff_core.specs.Calendar.{days_from_civil}
use Rattle.fx_number.specs.Decimal.{greatest}
use Rattle.fx_number.specs.Reading.{spelled}
use Rattle.fx_types.specs.DateText.{date_text}

-- a count of ten-thousandths, where it is one of a number
abbrev pub units_in_range : ℤ → Option ℤ
units_in_range z = if int_le (neg_ℤ (pos greatest)) z
    && int_le z (pos greatest) then Some z else None

-- the number that a text spells
abbrev pub spelled_number : List ℕ → Option ℤ
spelled_number s = option_and_then units_in_range (spelled s)

-- the number that digits are, whatever bytes they are
abbrev pub digits_of : List ℕ → ℕ
digits_of ds = fold (λ n d. n * 10 + (d - 48)) 0 ds

-- the day that a text would name as `yyyy-mm-dd`
abbrev pub day_at : List ℕ → ℤ
day_at s = days_from_civil (pos (digits_of (take 4 s))) (digits_of (take 2 (drop 5 s)))
    (digits_of (take 2 (drop 8 s)))

-- the day, where it is one and this is its text
abbrev pub day_if : ℤ → List ℕ → Option ℤ
day_if z s = if int_le (neg_ℤ (pos 25567)) z && int_le z (pos 2932896)
    && bytes_eq s (date_text z) then Some z else None

-- the day that a text spells
abbrev pub spelled_day : List ℕ → Option ℤ
spelled_day s = day_if (day_at s) s

-- the truth value that a text spells, in lower case alone
abbrev pub spelled_truth : List ℕ → Option Bool
spelled_truth s = if bytes_eq s (codes "true") then Some true
    else (if bytes_eq s (codes "false") then Some false else None)
