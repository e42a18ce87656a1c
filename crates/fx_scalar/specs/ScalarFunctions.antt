-- What each scalar function and operator answers.
use Rattle.std.specs.Prelude.{◌≡◌, ◌↔◌, ℕ, ℤ, pos, neg_ℤ, ◌/◌, unsigned_abs, ◌+ℤ◌, ◌-ℤ◌, Bool, true}
use Rattle.std.specs.Prelude.{false, not, List, [], ◌∷◌, map, length, IsTrue, Option, Some, None}
use Rattle.std.specs.Prelude.{Result, Ok, if◌then◌else◌, ◌||◌, IfErr, unwrap_or, encode_utf8_all}
use Rattle.fx_number.specs.Decimal.{Checked, IsPower, UnlessZero, product_of, quotient_of}
use Rattle.fx_number.specs.Decimal.{remainder_of, rounded_to}
use Rattle.fx_number.specs.declared.NumErr.{NumErr}
use Rattle.fx_number.specs.declared.Way.TheVariants.{Near, Up, Down, Floor}
use Rattle.fx_types.specs.Words.{scalars_of}
use Rattle.fx_types.specs.Days.{IsDay}
use Rattle.fx_types.specs.Values.{Data, blank, number, text, boolean, fault}
use Rattle.fx_types.specs.Types.{numbers}
use Rattle.fx_types.specs.declared.faults.Kind.{Kind}
use Rattle.fx_types.specs.declared.faults.Kind.TheVariants.{InvalidArgument}
use Rattle.fx_types.specs.declared.comparisons.Cmp.{Cmp}
use Rattle.fx_types.specs.declared.comparisons.Cmp.TheVariants.{Eq, Ne, Lt, Le, Gt, Ge}
use Rattle.fx_value.specs.Operators.{holds_of, CanCompare}
use Rattle.fx_value.specs.Coercion.{IsCoerced}
use Rattle.fx_core.specs.declared.functions.Fun.{Fun}
use Rattle.fx_core.specs.declared.functions.Fun.TheVariants as fun
use Rattle.fx_core.specs.declared.rows.Takes.{Takes}
use Rattle.fx_core.specs.declared.rows.Takes.TheVariants as takes
use Rattle.fx_core.specs.Rows.{row_of}
use Rattle.fx_primitives.specs.Texts.{text_or_quota, left_of, right_of, mid_of, replace_of, joined}
use Rattle.fx_primitives.specs.Texts.{lower_of, upper_of, trimmed}
use Rattle.fx_primitives.specs.Search.{IsFound}
use Rattle.fx_primitives.specs.Substitution.{IsSubstituted}
use Rattle.fx_primitives.specs.Folding.{BeginsWithoutCase, EndsWithoutCase, HasPart}
use Rattle.fx_primitives.specs.Folding.{HasPartWithoutCase}
use Rattle.fx_primitives.specs.Numbers.{AsKind}
use Rattle.fx_primitives.specs.Folds.{nonblank, IsSum, IsLeast, IsGreatest, average_of}
use Rattle.fx_primitives.specs.Formats.{formatted_number}
use Rattle.fx_types.specs.Civil.{civil_of}
use Rattle.fx_types.specs.DateText.{date_text}
use Rattle.fx_primitives.specs.Dates.{IsDayOrInvalid, IsDayLater, IsShifted, difference}
use Rattle.fx_primitives.specs.Dates.{number_of_parts, weekday_of}
use Rattle.fx_primitives.specs.DateTexts.{day_text as date_text_in}
use Rattle.fx_scalar.specs.Arguments.{argument_at, text_in, number_at, text_at, truth_at, date_at}
use Rattle.fx_scalar.specs.Arguments.{whole_at, maybe_whole_at, maybe_number, first_fault}
use Rattle.fx_scalar.specs.Errors.{IsErrorOf}
use Rattle.fx_scalar.specs.Answers.{IsNumber, IsMaybeNumber, IsText, IsDate, IsPosition}
use Rattle.fx_scalar.specs.Answers.{IsTruthAnswer, IsWholeNumber, OfDate, UnlessFault}

-- ---- words of single lines

-- the answer of a division
abbrev pub IsQuotient : ℤ → ℤ → Result ℤ NumErr → Type 0
IsQuotient n d = UnlessZero d (Checked (quotient_of n d))

-- an empty text is blank too
abbrev pub is_blank_or_empty : Data → Bool
is_blank_or_empty blank = true
is_blank_or_empty (text []) = true
is_blank_or_empty d = false

abbrev pub is_fault : Data → Bool
is_fault (fault k cs) = true
is_fault d = false

-- the first value that is neither blank nor an empty text, else blank
abbrev pub coalesced : List Data → Data
coalesced [] = blank
coalesced (d ∷ ds) = if is_blank_or_empty d then coalesced ds else d

-- the text of a number or of a day by a format; of a blank one the empty text
abbrev pub formatted : (ℤ → List ℕ) → Option ℤ → Data
formatted f None = text []
formatted f (Some z) = text (scalars_of (f z))

-- the day that a text names, or InvalidArgument
abbrev pub IsDateRead : List ℕ → Result ℤ Kind → Type 0
IsDateRead bs q = ((z : ℤ) → (q ≡ Ok z) ↔ (IsDay z × (bs ≡ date_text z)))
    × IfErr q (λ k. k ≡ InvalidArgument)

-- where a search starts: at the first position where no other is given
abbrev pub start_of : List Data → ℤ
start_of a = unwrap_or (maybe_whole_at a 2) (pos 1)

-- the operator that a function compares by, if it compares
abbrev pub comparison_of : Fun → Option Cmp
comparison_of fun.EqualNumbers = Some Eq
comparison_of fun.EqualTexts = Some Eq
comparison_of fun.EqualBooleans = Some Eq
comparison_of fun.EqualDates = Some Eq
comparison_of fun.UnequalNumbers = Some Ne
comparison_of fun.UnequalTexts = Some Ne
comparison_of fun.UnequalBooleans = Some Ne
comparison_of fun.UnequalDates = Some Ne
comparison_of fun.LessNumbers = Some Lt
comparison_of fun.LessDates = Some Lt
comparison_of fun.LessEqualNumbers = Some Le
comparison_of fun.LessEqualDates = Some Le
comparison_of fun.GreaterNumbers = Some Gt
comparison_of fun.GreaterDates = Some Gt
comparison_of fun.GreaterEqualNumbers = Some Ge
comparison_of fun.GreaterEqualDates = Some Ge
comparison_of f = None

-- a function that compares answers whether its operator holds of the two arguments
abbrev pub IsCompared : Option Cmp → List Data → Data → Type 0
IsCompared None a r = ⊥
IsCompared (Some op) a r = r ≡ boolean (holds_of op (argument_at a 0) (argument_at a 1))

-- ---- the table: what a function answers where it answers no error of its arguments. Functions of tables have no line.
abbrev pub IsResult : Fun → List Data → Data → Type 0
IsResult fun.AddNumbers a = IsNumber (AsKind (Checked (number_at a 0 +ℤ number_at a 1)))
IsResult fun.SubNumbers a = IsNumber (AsKind (Checked (number_at a 0 -ℤ number_at a 1)))
IsResult fun.MulNumbers a = IsNumber (AsKind (Checked (product_of (number_at a 0) (number_at a 1))))
IsResult fun.DivNumbers a = IsNumber (AsKind (IsQuotient (number_at a 0) (number_at a 1)))
IsResult fun.PowNumbers a = IsNumber (AsKind (IsPower (number_at a 0) (number_at a 1)))
IsResult fun.Percent a = IsNumber (AsKind (IsQuotient (number_at a 0) (pos 1000000)))
IsResult fun.Negate a = IsNumber (AsKind (Checked (pos 0 -ℤ number_at a 0)))
IsResult fun.AddDateNumber a = OfDate (date_at a 0) (λ d. IsDate (IsShifted d (number_at a 1)))
IsResult fun.AddNumberDate a = OfDate (date_at a 1) (λ d. IsDate (IsShifted d (number_at a 0)))
IsResult fun.SubDateNumber a = OfDate (date_at a 0)
    (λ d. IsDate (IsShifted d (neg_ℤ (number_at a 1))))
IsResult fun.SubDates a = OfDate (date_at a 0)
    (λ d. OfDate (date_at a 1) (λ e. IsWholeNumber (d -ℤ e)))
IsResult fun.Concatenation a = IsText (λ q. q ≡ text_or_quota (joined (map text_in a)))
IsResult fun.Concatenate a = IsText (λ q. q ≡ text_or_quota (joined (map text_in a)))
IsResult fun.In a = IsTruthAnswer (λ b. IsTrue b ↔ HasPartWithoutCase (text_at a 1) (text_at a 0))
IsResult fun.ExactIn a = IsTruthAnswer (λ b. IsTrue b ↔ HasPart (text_at a 1) (text_at a 0))
IsResult fun.Not a = λ r. r ≡ boolean (not (truth_at a 0))
IsResult fun.Abs a = λ r. r ≡ number (pos (unsigned_abs (number_at a 0)))
IsResult fun.Int a = IsNumber (AsKind (Checked (rounded_to (number_at a 0) (pos 0) Floor)))
IsResult fun.Trunc a = IsNumber (AsKind (Checked (rounded_to (number_at a 0) (pos 0) Down)))
IsResult fun.Round a = IsNumber (AsKind (Checked (rounded_to (number_at a 0) (whole_at a 1) Near)))
IsResult fun.RoundUp a = IsNumber (AsKind (Checked (rounded_to (number_at a 0) (whole_at a 1) Up)))
IsResult fun.RoundDown a = IsNumber (AsKind (Checked
    (rounded_to (number_at a 0) (whole_at a 1) Down)))
IsResult fun.Mod a = IsNumber (AsKind (UnlessZero (number_at a 1)
    (λ q. q ≡ Ok (remainder_of (number_at a 0) (number_at a 1)))))
IsResult fun.Power a = IsNumber (AsKind (IsPower (number_at a 0) (number_at a 1)))
IsResult fun.Sum a = IsMaybeNumber (IsSum (nonblank (map maybe_number a)))
IsResult fun.Min a = IsMaybeNumber (λ q. (o : Option ℤ) × IsLeast (nonblank (map maybe_number a)) o
    × (q ≡ Ok o))
IsResult fun.Max a = IsMaybeNumber (λ q. (o : Option ℤ)
    × IsGreatest (nonblank (map maybe_number a)) o × (q ≡ Ok o))
IsResult fun.Average a = IsMaybeNumber (λ q. q ≡ Ok (average_of (nonblank (map maybe_number a))))
IsResult fun.Value a = IsCoerced (text (text_at a 0)) numbers
IsResult fun.Len a = IsWholeNumber (pos (length (text_at a 0)))
IsResult fun.Left a = IsText (λ q. q ≡ left_of (text_at a 0) (whole_at a 1))
IsResult fun.Right a = IsText (λ q. q ≡ right_of (text_at a 0) (whole_at a 1))
IsResult fun.Mid a = IsText (λ q. q ≡ mid_of (text_at a 0) (whole_at a 1) (maybe_whole_at a 2))
IsResult fun.Lower a = IsText (λ q. q ≡ lower_of (text_at a 0))
IsResult fun.Upper a = IsText (λ q. q ≡ upper_of (text_at a 0))
IsResult fun.Trim a = IsText (λ q. q ≡ text_or_quota (trimmed (text_at a 0)))
IsResult fun.Find a = λ r. (q : Result (Option ℕ) Kind)
    × IsFound (text_at a 0) (text_at a 1) (start_of a) q × IsPosition q r
IsResult fun.Substitute a = IsText (IsSubstituted (text_at a 0) (text_at a 1) (text_at a 2)
    (maybe_whole_at a 3))
IsResult fun.Replace a = IsText (λ q. q ≡ replace_of (text_at a 0) (whole_at a 1) (whole_at a 2)
    (text_at a 3))
IsResult fun.StartsWith a = IsTruthAnswer (λ b. IsTrue b
    ↔ BeginsWithoutCase (text_at a 0) (text_at a 1))
IsResult fun.EndsWith a = IsTruthAnswer (λ b. IsTrue b
    ↔ EndsWithoutCase (text_at a 0) (text_at a 1))
IsResult fun.Text a = λ r. r ≡ argument_at a 0
IsResult fun.Table a = λ r. r ≡ argument_at a 0
IsResult (fun.FormatNumber f) a = λ r. r ≡ formatted (formatted_number f)
    (maybe_number (argument_at a 0))
IsResult (fun.FormatDate f) a = λ r. r ≡ formatted (date_text_in f) (date_at a 0)
IsResult fun.Blank a = λ r. r ≡ blank
IsResult fun.IsBlank a = λ r. r ≡ boolean (is_blank_or_empty (argument_at a 0))
IsResult fun.Coalesce a = λ r. r ≡ coalesced a
IsResult fun.IsError a = λ r. r ≡ boolean (is_fault (argument_at a 0))
IsResult fun.IsBlankOrError a = λ r. r ≡ boolean
    (is_fault (argument_at a 0) || is_blank_or_empty (argument_at a 0))
IsResult fun.Error a = IsErrorOf (argument_at a 0)
IsResult fun.Date a = IsDate (IsDayOrInvalid (number_of_parts (whole_at a 0) (whole_at a 1)
    (whole_at a 2)))
IsResult (fun.DateAdd u) a = OfDate (date_at a 0) (λ d. IsDate (IsDayLater u d (whole_at a 1)))
IsResult (fun.DateDiff u) a = OfDate (date_at a 0)
    (λ d. OfDate (date_at a 1) (λ e. IsWholeNumber (difference u d e)))
IsResult fun.Day a = OfDate (date_at a 0) (λ d. IsWholeNumber (pos (civil_of d).day))
IsResult fun.Month a = OfDate (date_at a 0) (λ d. IsWholeNumber (pos (civil_of d).month))
IsResult fun.Year a = OfDate (date_at a 0) (λ d. IsWholeNumber (pos (civil_of d).year))
IsResult fun.Weekday a = OfDate (date_at a 0) (λ d. IsWholeNumber (pos (weekday_of d)))
IsResult fun.DateValue a = IsDate (IsDateRead (encode_utf8_all (text_at a 0)))
IsResult f a = IsCompared (comparison_of f) a

-- ---- errors among the arguments
-- all functions are strict but these three, which look at errors themselves
abbrev pub is_strict : Fun → Bool
is_strict fun.Coalesce = false
is_strict fun.IsError = false
is_strict fun.IsBlankOrError = false
is_strict f = true

-- the error that a function answers in place of its result: a strict one the first error from the
-- left
abbrev pub answered_fault : Fun → List Data → Option Data
answered_fault f a = if is_strict f then first_fault a else None

-- what a function answers to its arguments
abbrev pub IsAnswer : Fun → List Data → Data → Type 0
IsAnswer f a = UnlessFault (answered_fault f a) (IsResult f a)

-- ---- what a function takes
-- whether this is a value, and no table
abbrev pub is_value : Takes → Bool
is_value takes.Table = false
is_value t = true

-- a function that compares takes arguments that its operator compares; all others take any
abbrev pub CanCompareIf : Option Cmp → List Data → Type 0
CanCompareIf None a = Unit {0}
CanCompareIf (Some op) a = CanCompare op (argument_at a 0) (argument_at a 1)

-- a function of values can be applied to arguments that it compares, if it does, unless it answers
-- an error
pub record CanApply (f : Fun) (a : List Data) : Type 0 where
  pub of_values : IsTrue (is_value (row_of f).first)
  pub comparable : answered_fault f a ≡ None → CanCompareIf (comparison_of f) a

-- ---- a call without such a line
-- the day of a moment in UTC, a count of seconds, or InvalidArgument past the last day
abbrev pub IsToday : ℕ → Data → Type 0
IsToday moment = IsDate (IsDayOrInvalid (pos (moment / 86400)))
