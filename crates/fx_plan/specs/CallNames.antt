-- What calls are named: a function by its name, and an operator not at all.
use Rattle.std.specs.Prelude.{List, ℕ, codes, Option, Some, None}
use Rattle.fx_core.specs.declared.deeds.Deed.{Deed}
use Rattle.fx_core.specs.declared.deeds.Deed.TheVariants as deed
use Rattle.fx_core.specs.declared.functions.Form.{Form}
use Rattle.fx_core.specs.declared.functions.Form.TheVariants as form
use Rattle.fx_core.specs.declared.functions.Fun.{Fun}
use Rattle.fx_core.specs.declared.functions.Fun.TheVariants as fun
use Rattle.fx_core.specs.Term.{Top}
use Rattle.fx_core.specs.Term as top

-- a function; the operators have none
abbrev pub function_name : Fun → Option (List ℕ)
function_name fun.Abs = Some (codes "Abs")
function_name fun.Int = Some (codes "Int")
function_name fun.Trunc = Some (codes "Trunc")
function_name fun.Round = Some (codes "Round")
function_name fun.RoundUp = Some (codes "RoundUp")
function_name fun.RoundDown = Some (codes "RoundDown")
function_name fun.Mod = Some (codes "Mod")
function_name fun.Power = Some (codes "Power")
function_name fun.Sum = Some (codes "Sum")
function_name fun.Min = Some (codes "Min")
function_name fun.Max = Some (codes "Max")
function_name fun.Average = Some (codes "Average")
function_name fun.Value = Some (codes "Value")
function_name fun.Len = Some (codes "Len")
function_name fun.Left = Some (codes "Left")
function_name fun.Right = Some (codes "Right")
function_name fun.Mid = Some (codes "Mid")
function_name fun.Lower = Some (codes "Lower")
function_name fun.Upper = Some (codes "Upper")
function_name fun.Trim = Some (codes "Trim")
function_name fun.Find = Some (codes "Find")
function_name fun.Substitute = Some (codes "Substitute")
function_name fun.Replace = Some (codes "Replace")
function_name fun.StartsWith = Some (codes "StartsWith")
function_name fun.EndsWith = Some (codes "EndsWith")
function_name fun.Concatenate = Some (codes "Concatenate")
function_name fun.Text = Some (codes "Text")
function_name (fun.FormatNumber x) = Some (codes "Text")
function_name (fun.FormatDate x) = Some (codes "Text")
function_name fun.Blank = Some (codes "Blank")
function_name fun.IsBlank = Some (codes "IsBlank")
function_name fun.Coalesce = Some (codes "Coalesce")
function_name fun.IsError = Some (codes "IsError")
function_name fun.IsBlankOrError = Some (codes "IsBlankOrError")
function_name fun.Error = Some (codes "Error")
function_name fun.Date = Some (codes "Date")
function_name (fun.DateAdd x) = Some (codes "DateAdd")
function_name (fun.DateDiff x) = Some (codes "DateDiff")
function_name fun.Day = Some (codes "Day")
function_name fun.Month = Some (codes "Month")
function_name fun.Year = Some (codes "Year")
function_name fun.Weekday = Some (codes "Weekday")
function_name fun.DateValue = Some (codes "DateValue")
function_name fun.Table = Some (codes "Table")
function_name fun.Filter = Some (codes "Filter")
function_name fun.LookUp = Some (codes "LookUp")
function_name (fun.Sort x) = Some (codes "Sort")
function_name fun.First = Some (codes "First")
function_name fun.Last = Some (codes "Last")
function_name fun.FirstN = Some (codes "FirstN")
function_name fun.LastN = Some (codes "LastN")
function_name fun.CountRows = Some (codes "CountRows")
function_name fun.CountIf = Some (codes "CountIf")
function_name fun.IsEmpty = Some (codes "IsEmpty")
function_name fun.SumRows = Some (codes "Sum")
function_name fun.MinRows = Some (codes "Min")
function_name fun.MaxRows = Some (codes "Max")
function_name fun.AverageRows = Some (codes "Average")
function_name fun.AddColumns = Some (codes "AddColumns")
function_name fun.DropColumns = Some (codes "DropColumns")
function_name fun.ShowColumns = Some (codes "ShowColumns")
function_name fun.RenameColumns = Some (codes "RenameColumns")
function_name fun.GroupBy = Some (codes "GroupBy")
function_name fun.Ungroup = Some (codes "Ungroup")
function_name fun.Distinct = Some (codes "Distinct")
function_name fun.ForAll = Some (codes "ForAll")
function_name fun.Concat = Some (codes "Concat")
function_name f = None

-- a form; `And` and `Or` are operators
abbrev pub form_name : Form → Option (List ℕ)
form_name form.All = None
form_name form.Any = None
form_name form.If = Some (codes "If")
form_name form.Switch = Some (codes "Switch")
form_name form.IfError = Some (codes "IfError")

-- a function that changes state
abbrev pub deed_name : Deed → List ℕ
deed_name (deed.Set x) = codes "Set"
deed_name (deed.UpdateContext x) = codes "UpdateContext"
deed_name (deed.Collect x) = codes "Collect"
deed_name (deed.Clear x) = codes "Clear"
deed_name (deed.ClearCollect x) = codes "ClearCollect"
deed_name (deed.Patch x) = codes "Patch"
deed_name (deed.Remove x) = codes "Remove"
deed_name (deed.RemoveIf x) = codes "RemoveIf"
deed_name (deed.UpdateIf x) = codes "UpdateIf"
deed_name (deed.Navigate x) = codes "Navigate"
deed_name deed.Notify = codes "Notify"
deed_name (deed.Reset x) = codes "Reset"

-- a node: what is no call has no name
abbrev pub call_name : Top → Option (List ℕ)
call_name (top.call f) = function_name f
call_name (top.over f) = function_name f
call_name (top.form f) = form_name f
call_name top.within = Some (codes "With")
call_name (top.act d) = Some (deed_name d)
call_name h = None
