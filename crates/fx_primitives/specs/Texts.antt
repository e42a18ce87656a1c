-- The texts that functions make of texts. A text is the list of its scalar values, and a position
-- counts them from 1.
use Rattle.std.specs.Prelude.{ℕ, suc, ℤ, pos, ◌+◌, ◌-◌, ◌&&◌, not, Bool, false, if◌then◌else◌}
use Rattle.std.specs.Prelude.{nat_le, List, [], ◌∷◌, ◌++◌, length, map, take, drop, Option, Some}
use Rattle.std.specs.Prelude.{None, Result, Ok, Err, encode_utf8_all}
use Rattle.std.specs.Char.{to_ascii_lowercase, to_ascii_uppercase}
use Rattle.std.specs.List.{prefix_len}
use Rattle.fx_types.specs.declared.faults.Kind.{Kind}
use Rattle.fx_types.specs.declared.faults.Kind.TheVariants.{InvalidArgument, QuotaExceeded}
use Rattle.fx_number.specs.Reading.{is_space}

-- how many bytes of UTF-8 a text has
abbrev pub utf8_length : List ℕ → ℕ
utf8_length cs = length (encode_utf8_all cs)

-- the most bytes of a text that a formula makes
abbrev pub longest : ℕ
longest = 65536

-- the answer where a formula makes this text: the text, or QuotaExceeded where it is too long
abbrev pub text_or_quota : List ℕ → Result (List ℕ) Kind
text_or_quota cs = if nat_le (utf8_length cs) longest then Ok cs else Err QuotaExceeded

-- the place of a position, counted from 0; under 1 there is none
abbrev pub offset_of : ℤ → Option ℕ
offset_of (pos (suc i)) = Some i
offset_of position = None

-- the first so many scalar values
abbrev pub left_of : List ℕ → ℤ → Result (List ℕ) Kind
left_of cs (pos n) = text_or_quota (take n cs)
left_of cs count = Err InvalidArgument

-- the last so many scalar values
abbrev pub right_of : List ℕ → ℤ → Result (List ℕ) Kind
right_of cs (pos n) = text_or_quota (drop (length cs - n) cs)
right_of cs count = Err InvalidArgument

-- the scalar values from a position on, so many of them or all
abbrev pub mid_of : List ℕ → ℤ → Option ℤ → Result (List ℕ) Kind
mid_of cs (pos (suc i)) None = text_or_quota (drop i cs)
mid_of cs (pos (suc i)) (Some (pos n)) = text_or_quota (take n (drop i cs))
mid_of cs position count = Err InvalidArgument

-- the text with so many scalar values from a place, counted from 0, replaced; past the end there
-- are none
abbrev pub spliced : List ℕ → ℕ → ℕ → List ℕ → List ℕ
spliced cs i n new = take i cs ++ (new ++ drop (i + n) cs)

-- the text with so many scalar values from a position replaced
abbrev pub replace_of : List ℕ → ℤ → ℤ → List ℕ → Result (List ℕ) Kind
replace_of cs (pos (suc i)) (pos n) new = text_or_quota (spliced cs i n new)
replace_of cs position count new = Err InvalidArgument

-- texts joined in order
abbrev pub joined : List (List ℕ) → List ℕ
joined [] = []
joined (t ∷ ts) = t ++ joined ts

-- A to Z as a to z, and a to z as A to Z; nothing else changes
abbrev pub lower_of : List ℕ → Result (List ℕ) Kind
lower_of cs = text_or_quota (map to_ascii_lowercase cs)

abbrev pub upper_of : List ℕ → Result (List ℕ) Kind
upper_of cs = text_or_quota (map to_ascii_uppercase cs)

-- whether another character than a space comes next
abbrev pub begins_word : List ℕ → Bool
begins_word [] = false
begins_word (c ∷ cs) = not (is_space c)

-- of the spaces those alone that another character follows: one of each run, and none at the end
abbrev pub single_spaced : List ℕ → List ℕ
single_spaced [] = []
single_spaced (c ∷ cs) = if is_space c && not (begins_word cs) then single_spaced cs else c
    ∷ single_spaced cs

-- spaces taken off both ends, and each run of inner ones made one
abbrev pub trimmed : List ℕ → List ℕ
trimmed cs = single_spaced (drop (prefix_len is_space cs) cs)
