-- The table of operators: which function the types of the operands choose.
use Rattle.std.specs.Prelude.{Option, Some, None, option_map}
use Rattle.fx_types.specs.Types.{Shape, blanks, numbers, texts, booleans, dates}
use Rattle.fx_core.specs.declared.expr.Op.{Op}
use Rattle.fx_core.specs.declared.expr.Op.TheVariants as op
use Rattle.fx_core.specs.declared.functions.Fun.{Fun}
use Rattle.fx_core.specs.declared.functions.Fun.TheVariants as fun

-- the type that `=` and `<>` compare two operands by: their own, that of the one that isn't Blank,
-- and Number where both are
pub data Compared : Type 0 where
  as_numbers : Compared
  as_texts : Compared
  as_booleans : Compared
  as_dates : Compared

abbrev pub own_compared : Shape → Option Compared
own_compared blanks = Some as_numbers
own_compared numbers = Some as_numbers
own_compared texts = Some as_texts
own_compared booleans = Some as_booleans
own_compared dates = Some as_dates
own_compared t = None

abbrev pub compared : Shape → Shape → Option Compared
compared blanks u = own_compared u
compared t blanks = own_compared t
compared numbers numbers = Some as_numbers
compared texts texts = Some as_texts
compared booleans booleans = Some as_booleans
compared dates dates = Some as_dates
compared t u = None

abbrev pub equal_by : Compared → Fun
equal_by as_numbers = fun.EqualNumbers
equal_by as_texts = fun.EqualTexts
equal_by as_booleans = fun.EqualBooleans
equal_by as_dates = fun.EqualDates

abbrev pub unequal_by : Compared → Fun
unequal_by as_numbers = fun.UnequalNumbers
unequal_by as_texts = fun.UnequalTexts
unequal_by as_booleans = fun.UnequalBooleans
unequal_by as_dates = fun.UnequalDates

-- two functions, of numbers and of dates: texts and truths have no order
abbrev pub ordered_by : Fun → Fun → Option Compared → Option Fun
ordered_by f g (Some as_numbers) = Some f
ordered_by f g (Some as_dates) = Some g
ordered_by f g c = None

-- beside a Date the other operand of `+` and `-` is a Number or of type Blank
abbrev pub date_sum : Shape → Shape → Option Fun
date_sum dates numbers = Some fun.AddDateNumber
date_sum dates blanks = Some fun.AddDateNumber
date_sum numbers dates = Some fun.AddNumberDate
date_sum blanks dates = Some fun.AddNumberDate
date_sum dates u = None
date_sum t dates = None
date_sum t u = Some fun.AddNumbers

abbrev pub difference_of : Shape → Shape → Option Fun
difference_of dates dates = Some fun.SubDates
difference_of blanks dates = Some fun.SubDates
difference_of dates numbers = Some fun.SubDateNumber
difference_of dates blanks = Some fun.SubDateNumber
difference_of dates u = None
difference_of t dates = None
difference_of t u = Some fun.SubNumbers

abbrev pub function_of : Op → Shape → Shape → Option Fun
function_of op.Add t u = date_sum t u
function_of op.Sub t u = difference_of t u
function_of op.Mul t u = Some fun.MulNumbers
function_of op.Div t u = Some fun.DivNumbers
function_of op.Pow t u = Some fun.PowNumbers
function_of op.Eq t u = option_map equal_by (compared t u)
function_of op.Ne t u = option_map unequal_by (compared t u)
function_of op.Lt t u = ordered_by fun.LessNumbers fun.LessDates (compared t u)
function_of op.Le t u = ordered_by fun.LessEqualNumbers fun.LessEqualDates (compared t u)
function_of op.Gt t u = ordered_by fun.GreaterNumbers fun.GreaterDates (compared t u)
function_of op.Ge t u = ordered_by fun.GreaterEqualNumbers fun.GreaterEqualDates (compared t u)
function_of op.In t u = Some fun.In
function_of op.ExactIn t u = Some fun.ExactIn
