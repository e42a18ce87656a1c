-- Answers as values. An error that a function makes has no message.
use Rattle.std.specs.Prelude.{◌≡◌, ℕ, ℤ, pos, ◌*ℤ◌, Bool, List, [], Option, Some, None, Result, Ok}
use Rattle.std.specs.Prelude.{Err}
use Rattle.fx_number.specs.Decimal.{Checked}
use Rattle.fx_types.specs.declared.faults.Kind.{Kind}
use Rattle.fx_types.specs.Values.{Data, blank, number, text, boolean, date, fault}
use Rattle.fx_primitives.specs.Numbers.{AsKind}

abbrev pub number_answer : Result ℤ Kind → Data
number_answer (Ok z) = number z
number_answer (Err k) = fault k []

-- a number or none, which is blank
abbrev pub maybe_answer : Result (Option ℤ) Kind → Data
maybe_answer (Ok None) = blank
maybe_answer (Ok (Some z)) = number z
maybe_answer (Err k) = fault k []

abbrev pub text_answer : Result (List ℕ) Kind → Data
text_answer (Ok cs) = text cs
text_answer (Err k) = fault k []

abbrev pub date_answer : Result ℤ Kind → Data
date_answer (Ok z) = date z
date_answer (Err k) = fault k []

-- the answer is a number, a number or none, a text, a day or a Boolean of which P holds, or the
-- error of one
abbrev pub IsNumber : (Result ℤ Kind → Type 0) → Data → Type 0
IsNumber P r = (q : Result ℤ Kind) × P q × (r ≡ number_answer q)

abbrev pub IsMaybeNumber : (Result (Option ℤ) Kind → Type 0) → Data → Type 0
IsMaybeNumber P r = (q : Result (Option ℤ) Kind) × P q × (r ≡ maybe_answer q)

abbrev pub IsText : (Result (List ℕ) Kind → Type 0) → Data → Type 0
IsText P r = (q : Result (List ℕ) Kind) × P q × (r ≡ text_answer q)

abbrev pub IsDate : (Result ℤ Kind → Type 0) → Data → Type 0
IsDate P r = (q : Result ℤ Kind) × P q × (r ≡ date_answer q)

abbrev pub IsTruthAnswer : (Bool → Type 0) → Data → Type 0
IsTruthAnswer P r = (b : Bool) × P b × (r ≡ boolean b)

-- the answer is this whole number, or Numeric where it is out of range
abbrev pub IsWholeNumber : ℤ → Data → Type 0
IsWholeNumber n = IsNumber (AsKind (Checked (n *ℤ pos 10000)))

-- the answer is this position or none, which is blank, or the error of one
abbrev pub IsPosition : Result (Option ℕ) Kind → Data → Type 0
IsPosition (Ok None) r = r ≡ blank
IsPosition (Ok (Some n)) r = IsWholeNumber (pos n) r
IsPosition (Err k) r = r ≡ fault k []

-- a blank date makes the answer blank
abbrev pub OfDate : Option ℤ → (ℤ → Data → Type 0) → Data → Type 0
OfDate None P r = r ≡ blank
OfDate (Some z) P r = P z r

-- the first error from the left, where there is one, is the answer
abbrev pub UnlessFault : Option Data → (Data → Type 0) → Data → Type 0
UnlessFault None P r = P r
UnlessFault (Some d) P r = r ≡ d
