-- The arguments of scalar functions. They fit the types of the function, or are blank or errors; a
-- value of another type would count as blank.
use Rattle.std.specs.Prelude.{ℕ, ℤ, pos, Bool, false, List, [], ◌∷◌, map, slice_get, length, nat_lt}
use Rattle.std.specs.Prelude.{if◌then◌else◌, Option, Some, None, unwrap_or}
use Rattle.fx_types.specs.Values.{Data, blank, number, text, boolean, date, fault}
use Rattle.fx_types.specs.ValueView.{view}
use Rattle.fx_types.specs.declared.values.Value.{Value}
use Rattle.fx_primitives.specs.Numbers.{whole_part_of}

abbrev pub views : List Value → List Data
views = map view

-- the argument at a place, counted from 0, which is blank where there is none
abbrev pub argument_at : List Data → ℕ → Data
argument_at ds i = unwrap_or (slice_get ds i) blank

-- the number, the text, the Boolean or the day in a value, which is none in a blank one
abbrev pub maybe_number : Data → Option ℤ
maybe_number (number z) = Some z
maybe_number d = None

abbrev pub maybe_text : Data → Option (List ℕ)
maybe_text (text cs) = Some cs
maybe_text d = None

abbrev pub maybe_truth : Data → Option Bool
maybe_truth (boolean b) = Some b
maybe_truth d = None

abbrev pub maybe_date : Data → Option ℤ
maybe_date (date z) = Some z
maybe_date d = None

-- a blank number is 0, a blank text empty, a blank Boolean false; a blank date is none
abbrev pub number_in : Data → ℤ
number_in d = unwrap_or (maybe_number d) (pos 0)

abbrev pub text_in : Data → List ℕ
text_in d = unwrap_or (maybe_text d) []

abbrev pub truth_in : Data → Bool
truth_in d = unwrap_or (maybe_truth d) false

abbrev pub number_at : List Data → ℕ → ℤ
number_at ds i = number_in (argument_at ds i)

abbrev pub text_at : List Data → ℕ → List ℕ
text_at ds i = text_in (argument_at ds i)

abbrev pub truth_at : List Data → ℕ → Bool
truth_at ds i = truth_in (argument_at ds i)

abbrev pub date_at : List Data → ℕ → Option ℤ
date_at ds i = maybe_date (argument_at ds i)

-- a number cut towards zero to a whole one
abbrev pub whole_at : List Data → ℕ → ℤ
whole_at ds i = whole_part_of (number_at ds i)

-- the same where there is such an argument
abbrev pub maybe_whole_at : List Data → ℕ → Option ℤ
maybe_whole_at ds i = if nat_lt i (length ds) then Some (whole_at ds i) else None

-- the first error among values, from the left
abbrev pub first_fault : List Data → Option Data
first_fault [] = None
first_fault (fault k cs ∷ ds) = Some (fault k cs)
first_fault (d ∷ ds) = first_fault ds
