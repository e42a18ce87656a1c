-- Arguments that are literals, as their bytes spell them.
use Rattle.std.specs.Prelude.{ℕ, List, Bool, is_some, Option, Some, None, codes, bytes_eq}
use Rattle.std.specs.Prelude.{option_map, if◌then◌else◌}
use Rattle.fx_types.specs.declared.faults.Kind.{Kind}
use Rattle.fx_types.specs.declared.faults.Kind.TheVariants as kind
use Rattle.fx_core.specs.declared.functions.Fun.{Fun}
use Rattle.fx_core.specs.declared.functions.Fun.TheVariants as fun
use Rattle.fx_types.specs.declared.formats.TimeUnit.{TimeUnit}
use Rattle.fx_types.specs.declared.formats.TimeUnit.TheVariants as unit
use Rattle.fx_core.specs.declared.literals.SortOrder.{SortOrder}
use Rattle.fx_core.specs.declared.literals.SortOrder.TheVariants as order
use Rattle.fx_types.specs.declared.formats.NumberFormat.{NumberFormat}
use Rattle.fx_types.specs.declared.formats.NumberFormat.TheVariants as number
use Rattle.fx_types.specs.declared.formats.DateFormat.{DateFormat}
use Rattle.fx_types.specs.declared.formats.DateFormat.TheVariants as date
use Rattle.fx_core.specs.declared.literals.Enumeration.{Enumeration}
use Rattle.fx_core.specs.declared.literals.Enumeration.TheVariants as enumerated

abbrev pub time_unit : List ℕ → Option TimeUnit
time_unit t =
    if bytes_eq t (codes "Days") then Some unit.Days
    else (if bytes_eq t (codes "Months") then Some unit.Months
    else (if bytes_eq t (codes "Quarters") then Some unit.Quarters
    else (if bytes_eq t (codes "Years") then Some unit.Years
    else None)))

abbrev pub sort_order : List ℕ → Option SortOrder
sort_order t =
    if bytes_eq t (codes "Ascending") then Some order.Ascending
    else (if bytes_eq t (codes "Descending") then Some order.Descending
    else None)

abbrev pub number_format : List ℕ → Option NumberFormat
number_format t =
    if bytes_eq t (codes "0") then Some number.Whole
    else (if bytes_eq t (codes "0.00") then Some number.TwoDecimals
    else (if bytes_eq t (codes "0.0000") then Some number.FourDecimals
    else (if bytes_eq t (codes "#,##0") then Some number.Grouped
    else (if bytes_eq t (codes "#,##0.00") then Some number.GroupedTwoDecimals
    else None))))

abbrev pub date_format : List ℕ → Option DateFormat
date_format t =
    if bytes_eq t (codes "yyyy-mm-dd") then Some date.YearMonthDay
    else (if bytes_eq t (codes "dd/mm/yyyy") then Some date.DayMonthYear
    else (if bytes_eq t (codes "mm/dd/yyyy") then Some date.MonthDayYear
    else None))

abbrev pub format_by : Option NumberFormat → Option DateFormat → Option Fun
format_by (Some f) d = Some (fun.FormatNumber f)
format_by None (Some f) = Some (fun.FormatDate f)
format_by None None = None

-- the text of a value by a format
abbrev pub formatting_function : List ℕ → Option Fun
formatting_function t = format_by (number_format t) (date_format t)

-- the function that a literal behind the other arguments makes of a function
abbrev pub with_literal : Fun → List ℕ → Option Fun
with_literal (fun.DateAdd u) t = option_map fun.DateAdd (time_unit t)
with_literal (fun.DateDiff u) t = option_map fun.DateDiff (time_unit t)
with_literal (fun.Sort o) t = option_map fun.Sort (sort_order t)
with_literal fun.Text t = formatting_function t
with_literal f t = None

-- the kinds of errors by their names
abbrev pub error_kind : List ℕ → Option Kind
error_kind t =
    if bytes_eq t (codes "Div0") then Some kind.Div0
    else (if bytes_eq t (codes "Numeric") then Some kind.Numeric
    else (if bytes_eq t (codes "InvalidArgument") then Some kind.InvalidArgument
    else (if bytes_eq t (codes "NotFound") then Some kind.NotFound
    else (if bytes_eq t (codes "MissingRequired") then Some kind.MissingRequired
    else (if bytes_eq t (codes "ConstraintViolated") then Some kind.ConstraintViolated
    else (if bytes_eq t (codes "QuotaExceeded") then Some kind.QuotaExceeded
    else (if bytes_eq t (codes "Validation") then Some kind.Validation
    else (if bytes_eq t (codes "Custom") then Some kind.Custom
    else None))))))))

-- the enumerations by their names
abbrev pub enumeration_of : List ℕ → Option Enumeration
enumeration_of t =
    if bytes_eq t (codes "SortOrder") then Some enumerated.SortOrder
    else (if bytes_eq t (codes "TimeUnit") then Some enumerated.TimeUnit
    else (if bytes_eq t (codes "ErrorKind") then Some enumerated.ErrorKind
    else None))

-- whether an enumeration has a member of this name
abbrev pub has_member : Enumeration → List ℕ → Bool
has_member enumerated.SortOrder t = is_some (sort_order t)
has_member enumerated.TimeUnit t = is_some (time_unit t)
has_member enumerated.ErrorKind t = is_some (error_kind t)
