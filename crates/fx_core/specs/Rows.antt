-- What each function and operator takes and answers.
use Rattle.std.specs.Prelude.{ℕ, suc, Bool, true, ◌&&◌, ◌||◌, nat_eq, nat_le, ◌%◌, if◌then◌else◌}
use Rattle.fx_types.specs.Types.{Shape, blanks, numbers, texts, booleans, dates}
use Rattle.fx_core.specs.declared.functions.Fun.{Fun}
use Rattle.fx_core.specs.declared.functions.Fun.TheVariants as fun
use Rattle.fx_core.specs.declared.functions.Form.{Form}
use Rattle.fx_core.specs.declared.functions.Form.TheVariants as form
use Rattle.fx_core.specs.declared.rows.Scalar.{Scalar}
use Rattle.fx_core.specs.declared.rows.Scalar.TheVariants.{Blank, Number, Text, Boolean, Date}
use Rattle.fx_core.specs.declared.rows.Takes.{Takes}
use Rattle.fx_core.specs.declared.rows.Takes.TheVariants as takes
use Rattle.fx_core.specs.declared.rows.Ending.{Ending}
use Rattle.fx_core.specs.declared.rows.Ending.TheVariants as ending
use Rattle.fx_core.specs.declared.rows.Answer.{Answer}
use Rattle.fx_core.specs.declared.rows.Answer.TheVariants as answer
use Rattle.fx_core.specs.declared.rows.Row.{Row}

-- the type of the values of a type without parts
abbrev pub shape_of : Scalar → Shape
shape_of Blank = blanks
shape_of Number = numbers
shape_of Text = texts
shape_of Boolean = booleans
shape_of Date = dates

-- a row: how many arguments at least and at most, what stands at the first place, at the second,
-- and from the third on in turn, and the answer
abbrev pub placed : ℕ → ℕ → Takes → Takes → Takes → Takes → Answer → Row
placed least most a b c d r =
    record {
      first = a;
      second = b;
      third = c;
      fourth = d;
      ending = ending.Open;
      least = least;
      most = most;
      answer = r;
    }

-- the same with arguments in pairs, behind the first one
abbrev pub paired : Takes → Takes → Takes → Takes → Answer → Row
paired a b c d r =
    record {
      first = a;
      second = b;
      third = c;
      fourth = d;
      ending = ending.Whole;
      least = 3;
      most = 255;
      answer = r;
    }

-- the same with a branch at the last place
abbrev pub branched : ℕ → Takes → Takes → Takes → Takes → Row
branched least a b c d =
    record {
      first = a;
      second = b;
      third = c;
      fourth = d;
      ending = ending.Branch;
      least = least;
      most = 255;
      answer = answer.Common;
    }

-- scalars that are coerced
abbrev pub scalars : ℕ → ℕ → Scalar → Scalar → Scalar → Scalar → Scalar → Row
scalars least most a b c d r =
    placed least most (takes.Scalar a) (takes.Scalar b) (takes.Scalar c) (takes.Scalar d)
    (answer.Scalar r)

abbrev pub one : Scalar → Scalar → Row
one a r = scalars 1 1 a a a a r

abbrev pub two : Scalar → Scalar → Scalar → Row
two a b r = scalars 2 2 a b b b r

abbrev pub many : Scalar → Scalar → Row
many a r = scalars 1 255 a a a a r

-- one value of any type
abbrev pub any : Row
any = placed 1 1 takes.Any takes.Any takes.Any takes.Any (answer.Scalar Boolean)

-- one value of just this type, as a text
abbrev pub exact : Scalar → Row
exact s = placed 1 1 (takes.Exact s) (takes.Exact s) (takes.Exact s) (takes.Exact s)
    (answer.Scalar Text)

-- a table, and then
abbrev pub over : ℕ → ℕ → Takes → Takes → Answer → Row
over least most b c r = placed least most takes.Table b c c r

-- a function's row
abbrev pub row_of : Fun → Row
row_of fun.AddNumbers = two Number Number Number
row_of fun.AddDateNumber = two Date Number Date
row_of fun.AddNumberDate = two Number Date Date
row_of fun.SubNumbers = two Number Number Number
row_of fun.SubDateNumber = two Date Number Date
row_of fun.SubDates = two Date Date Number
row_of fun.MulNumbers = two Number Number Number
row_of fun.DivNumbers = two Number Number Number
row_of fun.PowNumbers = two Number Number Number
row_of fun.Percent = one Number Number
row_of fun.Negate = one Number Number
row_of fun.Concatenation = many Text Text
row_of fun.EqualNumbers = two Number Number Boolean
row_of fun.EqualTexts = two Text Text Boolean
row_of fun.EqualBooleans = two Boolean Boolean Boolean
row_of fun.EqualDates = two Date Date Boolean
row_of fun.UnequalNumbers = two Number Number Boolean
row_of fun.UnequalTexts = two Text Text Boolean
row_of fun.UnequalBooleans = two Boolean Boolean Boolean
row_of fun.UnequalDates = two Date Date Boolean
row_of fun.LessNumbers = two Number Number Boolean
row_of fun.LessDates = two Date Date Boolean
row_of fun.LessEqualNumbers = two Number Number Boolean
row_of fun.LessEqualDates = two Date Date Boolean
row_of fun.GreaterNumbers = two Number Number Boolean
row_of fun.GreaterDates = two Date Date Boolean
row_of fun.GreaterEqualNumbers = two Number Number Boolean
row_of fun.GreaterEqualDates = two Date Date Boolean
row_of fun.In = two Text Text Boolean
row_of fun.ExactIn = two Text Text Boolean
row_of fun.Not = one Boolean Boolean
row_of fun.Abs = one Number Number
row_of fun.Int = one Number Number
row_of fun.Trunc = one Number Number
row_of fun.Round = two Number Number Number
row_of fun.RoundUp = two Number Number Number
row_of fun.RoundDown = two Number Number Number
row_of fun.Mod = two Number Number Number
row_of fun.Power = two Number Number Number
row_of fun.Sum = many Number Number
row_of fun.Min = many Number Number
row_of fun.Max = many Number Number
row_of fun.Average = many Number Number
row_of fun.Value = one Text Number
row_of fun.Len = one Text Number
row_of fun.Left = two Text Number Text
row_of fun.Right = two Text Number Text
row_of fun.Mid = scalars 2 3 Text Number Number Number Text
row_of fun.Lower = one Text Text
row_of fun.Upper = one Text Text
row_of fun.Trim = one Text Text
row_of fun.Find = scalars 2 3 Text Text Number Number Number
row_of fun.Substitute = scalars 3 4 Text Text Text Number Text
row_of fun.Replace = scalars 4 4 Text Number Number Text Text
row_of fun.StartsWith = two Text Text Boolean
row_of fun.EndsWith = two Text Text Boolean
row_of fun.Concatenate = many Text Text
row_of fun.Text = one Text Text
row_of (fun.FormatNumber f) = exact Number
row_of (fun.FormatDate f) = exact Date
row_of fun.Blank = scalars 0 0 Blank Blank Blank Blank Blank
row_of fun.IsBlank = any
row_of fun.Coalesce = placed 1 255 takes.Choice takes.Choice takes.Choice takes.Choice answer.Common
row_of fun.IsError = any
row_of fun.IsBlankOrError = any
row_of fun.Error = placed 1 1 takes.ErrorRecord takes.ErrorRecord takes.ErrorRecord
    takes.ErrorRecord (answer.Scalar Blank)
row_of fun.Date = scalars 3 3 Number Number Number Number Date
row_of (fun.DateAdd u) = two Date Number Date
row_of (fun.DateDiff u) = two Date Date Number
row_of fun.Day = one Date Number
row_of fun.Month = one Date Number
row_of fun.Year = one Date Number
row_of fun.Weekday = one Date Number
row_of fun.DateValue = one Text Date
row_of fun.Table = placed 1 1 takes.Any takes.Any takes.Any takes.Any answer.Same
row_of fun.Filter = over 2 255 (takes.Formula Boolean) (takes.Formula Boolean) answer.Same
row_of fun.LookUp = over 2 3 (takes.Formula Boolean) takes.AnyFormula answer.Found
row_of (fun.Sort o) = over 2 2 takes.ScalarFormula takes.ScalarFormula answer.Same
row_of fun.First = over 1 1 takes.Any takes.Any answer.Row
row_of fun.Last = over 1 1 takes.Any takes.Any answer.Row
row_of fun.FirstN = over 1 2 (takes.Scalar Number) (takes.Scalar Number) answer.Same
row_of fun.LastN = over 1 2 (takes.Scalar Number) (takes.Scalar Number) answer.Same
row_of fun.CountRows = over 1 1 takes.Any takes.Any (answer.Scalar Number)
row_of fun.CountIf = over 2 255 (takes.Formula Boolean) (takes.Formula Boolean)
    (answer.Scalar Number)
row_of fun.IsEmpty = over 1 1 takes.Any takes.Any (answer.Scalar Boolean)
row_of fun.SumRows = over 2 2 (takes.Formula Number) (takes.Formula Number) (answer.Scalar Number)
row_of fun.MinRows = over 2 2 (takes.Formula Number) (takes.Formula Number) (answer.Scalar Number)
row_of fun.MaxRows = over 2 2 (takes.Formula Number) (takes.Formula Number) (answer.Scalar Number)
row_of fun.AverageRows = over 2 2 (takes.Formula Number) (takes.Formula Number)
    (answer.Scalar Number)
row_of fun.AddColumns = paired takes.Table takes.NewColumn takes.AnyFormula takes.NewColumn
    answer.Added
row_of fun.DropColumns = over 2 255 takes.Column takes.Column answer.Dropped
row_of fun.ShowColumns = over 2 255 takes.Column takes.Column answer.Shown
row_of fun.RenameColumns = paired takes.Table takes.Column takes.NewColumn takes.Column
    answer.Renamed
row_of fun.GroupBy = over 3 255 takes.Column takes.Column answer.Grouped
row_of fun.Ungroup = over 2 2 takes.Column takes.Column answer.Ungrouped
row_of fun.Distinct = over 2 2 takes.ScalarFormula takes.ScalarFormula answer.Values
row_of fun.ForAll = over 2 2 takes.RowFormula takes.RowFormula answer.Each
row_of fun.Concat = over 2 3 (takes.Formula Text) (takes.Scalar Text) (answer.Scalar Text)

-- a form's row
abbrev pub form_row : Form → Row
form_row form.All = many Boolean Boolean
form_row form.Any = many Boolean Boolean
form_row form.If = branched 2 (takes.Scalar Boolean) takes.Branch (takes.Scalar Boolean)
    takes.Branch
form_row form.Switch = branched 3 takes.Compared takes.Match takes.Branch takes.Match
form_row form.IfError = placed 2 255 takes.Branch takes.Fallback takes.Branch takes.Fallback
    answer.Common

-- what stands at a place without regard to the end
abbrev pub inner_at : Row → ℕ → Takes
inner_at r i =
    if nat_eq i 0 then r.first else (if nat_eq i 1 then r.second else
    (if nat_eq (i % 2) 0 then r.third else r.fourth))

-- what stands at a place, from 0, of so many arguments
abbrev pub ended_at : Ending → Row → ℕ → ℕ → Takes
ended_at ending.Branch r n i = if nat_eq (suc i) n then takes.Branch else inner_at r i
ended_at e r n i = inner_at r i

abbrev pub takes_at : Row → ℕ → ℕ → Takes
takes_at r n i = ended_at r.ending r n i

-- whether pairs behind the first argument are whole
abbrev pub is_ended : Ending → ℕ → Bool
is_ended ending.Whole n = nat_eq (n % 2) 1
is_ended e n = true

-- whether a number of arguments lies between the least and the greatest, where 255 is any number
abbrev pub is_arity : ℕ → ℕ → ℕ → Bool
is_arity least most n = nat_le least n && (nat_eq most 255 || nat_le n most)

-- whether a row has so many arguments
abbrev pub takes_count : Row → ℕ → Bool
takes_count r n = is_arity r.least r.most n && is_ended r.ending n
