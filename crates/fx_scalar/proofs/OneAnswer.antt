-- A function has one answer at most.
use Rattle.std.proofs.Common.{◌∙◌, ap, sym, subst, Ok, Option, Some, None, List, map, length, pos}
use Rattle.std.specs.Prelude.{◌+ℤ◌, ◌-ℤ◌, neg_ℤ, encode_utf8_all}
use Rattle.fx_number.specs.Decimal.{product_of, quotient_of, rounded_to}
use Rattle.fx_number.specs.declared.Way.TheVariants.{Near, Up, Down, Floor}
use Rattle.fx_types.specs.Values.{Data, boolean}
use Rattle.fx_primitives.specs.Folds.{nonblank}
use Rattle.fx_core.specs.declared.functions.Fun.{Fun}
use Rattle.fx_core.specs.declared.functions.Fun.TheVariants as fun
use Rattle.fx_types.specs.Civil.{civil_of}
use Rattle.fx_primitives.specs.Dates.{difference, number_of_parts, weekday_of}
use Rattle.fx_scalar.specs.Answers.{IsPosition, UnlessFault, date_answer, maybe_answer, number_answer, text_answer}
use Rattle.fx_scalar.specs.Arguments.{argument_at, date_at, maybe_number, maybe_whole_at, number_at, text_at, whole_at}
use Rattle.fx_scalar.specs.ScalarFunctions.{IsResult, answered_fault, start_of}
use Rattle.fx_scalar.specs.Laws.{OneAnswer}
use Rattle.fx_scalar.proofs.Single.{AtMostOne, answer_one, as_kind_one, checked_one, date_read_one, day_one, equal_one, error_one, found_one, greatest_one, later_one, least_one, of_date_one, position_one, power_one, read_one, shifted_one, substituted_one, sum_one, truth_one, unless_zero_one, whole_one}

result_one : (f : Fun) (a : List Data) → AtMostOne (IsResult f a)
result_one fun.AddNumbers a = answer_one number_answer _ (as_kind_one _ (checked_one (number_at a 0 +ℤ number_at a 1)))
result_one fun.SubNumbers a = answer_one number_answer _ (as_kind_one _ (checked_one (number_at a 0 -ℤ number_at a 1)))
result_one fun.MulNumbers a = answer_one number_answer _ (as_kind_one _ (checked_one (product_of (number_at a 0) (number_at a 1))))
result_one fun.DivNumbers a = answer_one number_answer _ (as_kind_one _ (unless_zero_one (number_at a 1) _ (checked_one (quotient_of (number_at a 0) (number_at a 1)))))
result_one fun.Percent a = answer_one number_answer _ (as_kind_one _ (unless_zero_one (pos 1000000) _ (checked_one (quotient_of (number_at a 0) (pos 1000000)))))
result_one fun.PowNumbers a = answer_one number_answer _ (as_kind_one _ (power_one (number_at a 0) (number_at a 1)))
result_one fun.Power a = answer_one number_answer _ (as_kind_one _ (power_one (number_at a 0) (number_at a 1)))
result_one fun.Negate a = answer_one number_answer _ (as_kind_one _ (checked_one (pos 0 -ℤ number_at a 0)))
result_one fun.Int a = answer_one number_answer _ (as_kind_one _ (checked_one (rounded_to (number_at a 0) (pos 0) Floor)))
result_one fun.Trunc a = answer_one number_answer _ (as_kind_one _ (checked_one (rounded_to (number_at a 0) (pos 0) Down)))
result_one fun.Round a = answer_one number_answer _ (as_kind_one _ (checked_one (rounded_to (number_at a 0) (whole_at a 1) Near)))
result_one fun.RoundUp a = answer_one number_answer _ (as_kind_one _ (checked_one (rounded_to (number_at a 0) (whole_at a 1) Up)))
result_one fun.RoundDown a = answer_one number_answer _ (as_kind_one _ (checked_one (rounded_to (number_at a 0) (whole_at a 1) Down)))
result_one fun.Mod a = answer_one number_answer _ (as_kind_one _ (unless_zero_one (number_at a 1) _ (equal_one _)))
result_one fun.Sum a = answer_one maybe_answer _ (sum_one (nonblank (map maybe_number a)))
result_one fun.Min a = answer_one maybe_answer _ (λ r s h k. h.2 ∙ ap Ok (least_one (nonblank (map maybe_number a)) h.0 k.0 h.1 k.1) ∙ sym k.2)
result_one fun.Max a = answer_one maybe_answer _ (λ r s h k. h.2 ∙ ap Ok (greatest_one (nonblank (map maybe_number a)) h.0 k.0 h.1 k.1) ∙ sym k.2)
result_one fun.Average a = answer_one maybe_answer _ (equal_one _)
result_one fun.Value a = read_one (encode_utf8_all (text_at a 0))
result_one fun.Concatenation a = answer_one text_answer _ (equal_one _)
result_one fun.Concatenate a = answer_one text_answer _ (equal_one _)
result_one fun.Left a = answer_one text_answer _ (equal_one _)
result_one fun.Right a = answer_one text_answer _ (equal_one _)
result_one fun.Mid a = answer_one text_answer _ (equal_one _)
result_one fun.Lower a = answer_one text_answer _ (equal_one _)
result_one fun.Upper a = answer_one text_answer _ (equal_one _)
result_one fun.Trim a = answer_one text_answer _ (equal_one _)
result_one fun.Replace a = answer_one text_answer _ (equal_one _)
result_one fun.Substitute a = answer_one text_answer _ (substituted_one (text_at a 0) (text_at a 1) (text_at a 2) (maybe_whole_at a 3))
result_one fun.Find a = λ r s h k.
    let same = found_one (text_at a 0) (text_at a 1) (start_of a) h.0 k.0 h.1 k.1 in
    position_one k.0 r s (subst (λ q. IsPosition q r) same h.2) k.2
result_one fun.Len a = whole_one (pos (length (text_at a 0)))
result_one fun.In a = answer_one boolean _ (truth_one _)
result_one fun.ExactIn a = answer_one boolean _ (truth_one _)
result_one fun.StartsWith a = answer_one boolean _ (truth_one _)
result_one fun.EndsWith a = answer_one boolean _ (truth_one _)
result_one fun.AddDateNumber a = of_date_one (date_at a 0) _ (λ d. answer_one date_answer _ (shifted_one d (number_at a 1)))
result_one fun.AddNumberDate a = of_date_one (date_at a 1) _ (λ d. answer_one date_answer _ (shifted_one d (number_at a 0)))
result_one fun.SubDateNumber a = of_date_one (date_at a 0) _ (λ d. answer_one date_answer _ (shifted_one d (neg_ℤ (number_at a 1))))
result_one (fun.DateAdd u) a = of_date_one (date_at a 0) _ (λ d. answer_one date_answer _ (later_one u d (whole_at a 1)))
result_one fun.SubDates a = of_date_one (date_at a 0) _ (λ d. of_date_one (date_at a 1) _ (λ e. whole_one (d -ℤ e)))
result_one (fun.DateDiff u) a = of_date_one (date_at a 0) _ (λ d. of_date_one (date_at a 1) _ (λ e. whole_one (difference u d e)))
result_one fun.Day a = of_date_one (date_at a 0) _ (λ d. whole_one (pos (civil_of d).day))
result_one fun.Month a = of_date_one (date_at a 0) _ (λ d. whole_one (pos (civil_of d).month))
result_one fun.Year a = of_date_one (date_at a 0) _ (λ d. whole_one (pos (civil_of d).year))
result_one fun.Weekday a = of_date_one (date_at a 0) _ (λ d. whole_one (pos (weekday_of d)))
result_one fun.Date a = answer_one date_answer _ (day_one (number_of_parts (whole_at a 0) (whole_at a 1) (whole_at a 2)))
result_one fun.DateValue a = answer_one date_answer _ (date_read_one (encode_utf8_all (text_at a 0)))
result_one fun.Not a = equal_one _
result_one fun.Abs a = equal_one _
result_one fun.Text a = equal_one _
result_one fun.Table a = equal_one _
result_one fun.Blank a = equal_one _
result_one fun.IsBlank a = equal_one _
result_one fun.Coalesce a = equal_one _
result_one fun.IsError a = equal_one _
result_one fun.Error a = error_one (argument_at a 0)
result_one fun.IsBlankOrError a = equal_one _
result_one (fun.FormatNumber f) a = equal_one _
result_one (fun.FormatDate f) a = equal_one _
result_one fun.EqualNumbers a = equal_one _
result_one fun.EqualTexts a = equal_one _
result_one fun.EqualBooleans a = equal_one _
result_one fun.EqualDates a = equal_one _
result_one fun.UnequalNumbers a = equal_one _
result_one fun.UnequalTexts a = equal_one _
result_one fun.UnequalBooleans a = equal_one _
result_one fun.UnequalDates a = equal_one _
result_one fun.LessNumbers a = equal_one _
result_one fun.LessDates a = equal_one _
result_one fun.LessEqualNumbers a = equal_one _
result_one fun.LessEqualDates a = equal_one _
result_one fun.GreaterNumbers a = equal_one _
result_one fun.GreaterDates a = equal_one _
result_one fun.GreaterEqualNumbers a = equal_one _
result_one fun.GreaterEqualDates a = equal_one _
result_one f a = λ r s h k. absurd h

unless_fault_one : (o : Option Data) (R : Data → Type 0) → AtMostOne R → AtMostOne (UnlessFault o R)
unless_fault_one None R one r s h k = one r s h k
unless_fault_one (Some d) R one r s h k = h ∙ sym k

pub one_answer : OneAnswer
one_answer f a r s h k = unless_fault_one (answered_fault f a) _ (result_one f a) r s h k
