-- What functions answer to arguments that fit their places fits their type.
use Rattle.std.proofs.Common.{◌≡◌, ℕ, Bool, true, false, List, [], ◌∷◌, arith, refl, All}
use Rattle.std.specs.Prelude.{ℤ, suc, if◌then◌else◌, encode_utf8_all, Option, Some, None, Result, Ok, Err}
use Rattle.fx_types.specs.declared.faults.Kind.{Kind}
use Rattle.fx_types.specs.Types.{Shape, blanks, numbers, texts, booleans, dates}
use Rattle.fx_types.specs.Values.{Data, blank, number, boolean, rec, fault}
use Rattle.fx_value.specs.Coercion.{IsReadAs}
use Rattle.fx_value.specs.Fits.{fits_in}
use Rattle.fx_core.specs.declared.functions.Fun.{Fun}
use Rattle.fx_core.specs.declared.functions.Fun.TheVariants as fun
use Rattle.fx_core.specs.declared.rows.Answer.{Answer}
use Rattle.fx_core.specs.declared.rows.Answer.TheVariants as answer
use Rattle.fx_core.specs.Rows.{row_of}
use Rattle.fx_scalar.specs.Answers.{IsPosition, OfDate, UnlessFault, date_answer, maybe_answer, number_answer, text_answer}
use Rattle.fx_scalar.specs.Arguments.{argument_at, date_at, first_fault, text_at}
use Rattle.fx_scalar.specs.Errors.{IsErrorOf, error_of}
use Rattle.fx_scalar.specs.ScalarFunctions.{IsResult, answered_fault, coalesced, formatted, is_blank_or_empty, is_fault}
use Rattle.fx_scalar.specs.Fitting.{AnswersFit, FitPlaces, FitsAnswer}
use Rattle.fx_scalar.proofs.Comparing.{fits_at}

number_fits : (r : Data) (q : Result ℤ Kind) → r ≡ number_answer q → fits_in r numbers ≡ true
number_fits r (Ok z) e = rw e refl
number_fits r (Err k) e = rw e refl

maybe_fits : (r : Data) (q : Result (Option ℤ) Kind) → r ≡ maybe_answer q → fits_in r numbers ≡ true
maybe_fits r (Ok None) e = rw e refl
maybe_fits r (Ok (Some z)) e = rw e refl
maybe_fits r (Err k) e = rw e refl

text_fits : (r : Data) (q : Result (List ℕ) Kind) → r ≡ text_answer q → fits_in r texts ≡ true
text_fits r (Ok cs) e = rw e refl
text_fits r (Err k) e = rw e refl

day_fits : (r : Data) (q : Result ℤ Kind) → r ≡ date_answer q → fits_in r dates ≡ true
day_fits r (Ok z) e = rw e refl
day_fits r (Err k) e = rw e refl

truth_fits : (r : Data) (b : Bool) → r ≡ boolean b → fits_in r booleans ≡ true
truth_fits r b e = rw e refl

position_fits : (q : Result (Option ℕ) Kind) (r : Data) → IsPosition q r → fits_in r numbers ≡ true
position_fits (Ok None) r e = rw e refl
position_fits (Ok (Some n)) r e = number_fits r e.0 e.2
position_fits (Err k) r e = rw e refl

of_date_fits : (o : Option ℤ) (P : ℤ → Data → Type 0) (t : Shape) (r : Data) → ((z : ℤ) → P z r → fits_in r t ≡ true) → OfDate o P r → fits_in r t ≡ true
of_date_fits None P t r h e = rw e refl
of_date_fits (Some z) P t r h e = h z e

read_fits : (bs : List ℕ) (r : Data) → IsReadAs bs r → fits_in r numbers ≡ true
read_fits bs blank h = refl
read_fits bs (number z) h = refl
read_fits bs (fault k cs) h = refl
read_fits bs r h = absurd h

formatted_fits : (f : ℤ → List ℕ) (o : Option ℤ) (r : Data) → r ≡ formatted f o → fits_in r texts ≡ true
formatted_fits f None r e = rw e refl
formatted_fits f (Some z) r e = rw e refl

coalesced_fits : (a : List Data) (t : Shape) → All (λ d. fits_in d t ≡ true) a → fits_in (coalesced a) t ≡ true
coalesced_fits [] t h = refl
coalesced_fits (d ∷ ds) t h = elim (is_blank_or_empty d) as (λ b. fits_in (if b then coalesced ds else d) t ≡ true) [
  | true ↦ coalesced_fits ds t (λ k e lt. h (suc k) e (omega arith))
  | false ↦ h 0 d (omega arith)
]

-- what Error answers is an error
told_fits : (k m : Data) → fits_in (error_of k m) blanks ≡ true
told_fits (fault k cs) m = refl
told_fits k (fault j cs) = refl
told_fits k m = refl

error_fits : (d r : Data) → IsErrorOf d r → fits_in r blanks ≡ true
error_fits (rec fs) r e = rw e.4 (told_fits e.0 e.1)
error_fits d r e = rw e refl

-- an error fits every type
fault_fits : (q : Answer) (a : List Data) (r : Data) → is_fault r ≡ true → FitsAnswer q a r
fault_fits (answer.Scalar s) a (fault k cs) h = refl
fault_fits (answer.Scalar s) a r h = absurd (cc)
fault_fits answer.Common a (fault k cs) h = λ t all. refl
fault_fits answer.Common a r h = absurd (cc)
fault_fits answer.Same a (fault k cs) h = λ t f. refl
fault_fits answer.Same a r h = absurd (cc)
fault_fits q a r h = tt

first_fault_is : (a : List Data) (d : Data) → first_fault a ≡ Some d → is_fault d ≡ true
first_fault_is [] d e = absurd (cc)
first_fault_is (fault k cs ∷ ds) d e = let same : fault k cs ≡ d = cc in rw (← same) refl
first_fault_is (c ∷ ds) d e = first_fault_is ds d e

pub result_fits : (f : Fun) (a : List Data) (r : Data) → FitPlaces f a → IsResult f a r → FitsAnswer (row_of f).answer a r
result_fits fun.AddNumbers a r h e = number_fits r e.0 e.2
result_fits fun.SubNumbers a r h e = number_fits r e.0 e.2
result_fits fun.MulNumbers a r h e = number_fits r e.0 e.2
result_fits fun.DivNumbers a r h e = number_fits r e.0 e.2
result_fits fun.PowNumbers a r h e = number_fits r e.0 e.2
result_fits fun.Percent a r h e = number_fits r e.0 e.2
result_fits fun.Negate a r h e = number_fits r e.0 e.2
result_fits fun.Int a r h e = number_fits r e.0 e.2
result_fits fun.Trunc a r h e = number_fits r e.0 e.2
result_fits fun.Round a r h e = number_fits r e.0 e.2
result_fits fun.RoundUp a r h e = number_fits r e.0 e.2
result_fits fun.RoundDown a r h e = number_fits r e.0 e.2
result_fits fun.Mod a r h e = number_fits r e.0 e.2
result_fits fun.Power a r h e = number_fits r e.0 e.2
result_fits fun.Len a r h e = number_fits r e.0 e.2
result_fits fun.Sum a r h e = maybe_fits r e.0 e.2
result_fits fun.Min a r h e = maybe_fits r e.0 e.2
result_fits fun.Max a r h e = maybe_fits r e.0 e.2
result_fits fun.Average a r h e = maybe_fits r e.0 e.2
result_fits fun.Concatenation a r h e = text_fits r e.0 e.2
result_fits fun.Concatenate a r h e = text_fits r e.0 e.2
result_fits fun.Left a r h e = text_fits r e.0 e.2
result_fits fun.Right a r h e = text_fits r e.0 e.2
result_fits fun.Mid a r h e = text_fits r e.0 e.2
result_fits fun.Lower a r h e = text_fits r e.0 e.2
result_fits fun.Upper a r h e = text_fits r e.0 e.2
result_fits fun.Trim a r h e = text_fits r e.0 e.2
result_fits fun.Substitute a r h e = text_fits r e.0 e.2
result_fits fun.Replace a r h e = text_fits r e.0 e.2
result_fits fun.In a r h e = truth_fits r e.0 e.2
result_fits fun.ExactIn a r h e = truth_fits r e.0 e.2
result_fits fun.StartsWith a r h e = truth_fits r e.0 e.2
result_fits fun.EndsWith a r h e = truth_fits r e.0 e.2
result_fits fun.Not a r h e = rw e refl
result_fits fun.IsBlank a r h e = rw e refl
result_fits fun.IsError a r h e = rw e refl
result_fits fun.IsBlankOrError a r h e = rw e refl
result_fits fun.EqualNumbers a r h e = rw e refl
result_fits fun.EqualTexts a r h e = rw e refl
result_fits fun.EqualBooleans a r h e = rw e refl
result_fits fun.EqualDates a r h e = rw e refl
result_fits fun.UnequalNumbers a r h e = rw e refl
result_fits fun.UnequalTexts a r h e = rw e refl
result_fits fun.UnequalBooleans a r h e = rw e refl
result_fits fun.UnequalDates a r h e = rw e refl
result_fits fun.LessNumbers a r h e = rw e refl
result_fits fun.LessDates a r h e = rw e refl
result_fits fun.LessEqualNumbers a r h e = rw e refl
result_fits fun.LessEqualDates a r h e = rw e refl
result_fits fun.GreaterNumbers a r h e = rw e refl
result_fits fun.GreaterDates a r h e = rw e refl
result_fits fun.GreaterEqualNumbers a r h e = rw e refl
result_fits fun.GreaterEqualDates a r h e = rw e refl
result_fits fun.Abs a r h e = rw e refl
result_fits fun.Blank a r h e = rw e refl
result_fits fun.AddDateNumber a r h e = of_date_fits (date_at a 0) _ dates r (λ z p. day_fits r p.0 p.2) e
result_fits fun.AddNumberDate a r h e = of_date_fits (date_at a 1) _ dates r (λ z p. day_fits r p.0 p.2) e
result_fits fun.SubDateNumber a r h e = of_date_fits (date_at a 0) _ dates r (λ z p. day_fits r p.0 p.2) e
result_fits (fun.DateAdd u) a r h e = of_date_fits (date_at a 0) _ dates r (λ z p. day_fits r p.0 p.2) e
result_fits fun.Date a r h e = day_fits r e.0 e.2
result_fits fun.DateValue a r h e = day_fits r e.0 e.2
result_fits fun.Day a r h e = of_date_fits (date_at a 0) _ numbers r (λ z p. number_fits r p.0 p.2) e
result_fits fun.Month a r h e = of_date_fits (date_at a 0) _ numbers r (λ z p. number_fits r p.0 p.2) e
result_fits fun.Year a r h e = of_date_fits (date_at a 0) _ numbers r (λ z p. number_fits r p.0 p.2) e
result_fits fun.Weekday a r h e = of_date_fits (date_at a 0) _ numbers r (λ z p. number_fits r p.0 p.2) e
result_fits fun.SubDates a r h e = of_date_fits (date_at a 0) _ numbers r (λ z p. of_date_fits (date_at a 1) _ numbers r (λ y q. number_fits r q.0 q.2) p) e
result_fits (fun.DateDiff u) a r h e = of_date_fits (date_at a 0) _ numbers r (λ z p. of_date_fits (date_at a 1) _ numbers r (λ y q. number_fits r q.0 q.2) p) e
result_fits fun.Find a r h e = position_fits e.0 r e.2
result_fits fun.Value a r h e = read_fits (encode_utf8_all (text_at a 0)) r e
result_fits fun.Text a r h e = rw e (fits_at a 0 texts (h 0))
result_fits fun.Table a r h e = λ t f. rw e f
result_fits (fun.FormatNumber f) a r h e = formatted_fits _ _ r e
result_fits (fun.FormatDate f) a r h e = formatted_fits _ _ r e
result_fits fun.Error a r h e = error_fits (argument_at a 0) r e
result_fits fun.Coalesce a r h e = λ t all. rw e (coalesced_fits a t all)
result_fits f a r h e = absurd e

-- where an error is answered, and where none is
answer_fits : (q : Answer) (a : List Data) (o : Option Data) (R : Data → Type 0) (r : Data)
    → ((d : Data) → o ≡ Some d → is_fault d ≡ true) → (R r → FitsAnswer q a r) → UnlessFault o R r → FitsAnswer q a r
answer_fits q a None R r h k u = k u
answer_fits q a (Some d) R r h k u = fault_fits q a r (rw u (h d refl))

fault_is : (f : Fun) (a : List Data) (d : Data) → answered_fault f a ≡ Some d → is_fault d ≡ true
fault_is fun.Coalesce a d e = absurd (cc)
fault_is fun.IsError a d e = absurd (cc)
fault_is fun.IsBlankOrError a d e = absurd (cc)
fault_is f a d e = first_fault_is a d e

pub answers_fit : AnswersFit
answers_fit f a r h e = answer_fits (row_of f).answer a (answered_fault f a) (IsResult f a) r (fault_is f a) (result_fits f a r h) e
