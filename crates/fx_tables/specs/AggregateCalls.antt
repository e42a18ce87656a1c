-- What a formula's values for each row come to as one value. Blank ones are passed over, but in
-- `Concat`.
use Rattle.std.specs.Prelude.{◌≡◌, ℕ, ℤ, List, [], ◌∷◌, map, Option, Some, None, Result, Ok, Err}
use Rattle.std.specs.List.{flat_map}
use Rattle.fx_types.specs.Values.{Data, blank, number, text, fault}
use Rattle.fx_types.specs.declared.faults.Kind.{Kind}
use Rattle.fx_primitives.specs.Folds.{IsGreatest, IsLeast, IsSum, average_of}
use Rattle.fx_value.specs.Aggregates.{numbers_in}
use Rattle.fx_tables.specs.Unions.{fault_or}
use Rattle.fx_primitives.specs.Texts.{joined, text_or_quota}
use Rattle.fx_tables.specs.RowCalls.{IsFirstErrorOr}

-- a number, or blank for none, of which P holds
abbrev pub IsNumberOrBlank : (Option ℤ → Type 0) → Data → Type 0
IsNumberOrBlank P blank = P None
IsNumberOrBlank P (number z) = P (Some z)
IsNumberOrBlank P _ = ⊥

-- the sum of numbers, blank of none, and Numeric without a message where it is out of range
abbrev pub IsSumValue : List ℤ → Data → Type 0
IsSumValue zs (fault k cs) = IsSum zs (Err k) × (cs ≡ [])
IsSumValue zs d = IsNumberOrBlank (λ o. IsSum zs (Ok o)) d

-- `Sum`, `Min` and `Max`: the first error in row order, else what the numbers come to
abbrev pub IsSumOf : List Data → Data → Type 0
IsSumOf ds = IsFirstErrorOr ds (IsSumValue (numbers_in ds))

abbrev pub IsLeastOf : List Data → Data → Type 0
IsLeastOf ds = IsFirstErrorOr ds (IsNumberOrBlank (IsLeast (numbers_in ds)))

abbrev pub IsGreatestOf : List Data → Data → Type 0
IsGreatestOf ds = IsFirstErrorOr ds (IsNumberOrBlank (IsGreatest (numbers_in ds)))

abbrev pub number_or_blank : Option ℤ → Data
number_or_blank None = blank
number_or_blank (Some z) = number z

-- `Average`: the first error in row order, else the exact sum divided by how many there are,
-- rounded once
abbrev pub averaged : List Data → Data
averaged ds = fault_or ds (number_or_blank (average_of (numbers_in ds)))

-- a text's characters; blank has none
abbrev pub characters_in : Data → List ℕ
characters_in (text cs) = cs
characters_in _ = []

-- texts with a separator between each two
abbrev pub separated : List ℕ → List (List ℕ) → List (List ℕ)
separated s [] = []
separated s (t ∷ ts) = t ∷ flat_map (λ u. s ∷ u ∷ []) ts

-- a text that a formula makes, as a value
abbrev pub made_value : Result (List ℕ) Kind → Data
made_value (Ok cs) = text cs
made_value (Err k) = fault k []

-- `Concat`: the first error in row order, else the texts joined, with a separator between each two
abbrev pub concatenated : List ℕ → List Data → Data
concatenated s ds = fault_or ds (made_value (text_or_quota
    (joined (separated s (map characters_in ds)))))

-- the same with a value in place of the separator: an error there comes after one of the texts
abbrev pub concatenated_by : Data → List Data → Data
concatenated_by (fault k cs) ds = fault_or ds (fault k cs)
concatenated_by s ds = concatenated (characters_in s) ds
