-- The table of functions.
use Rattle.std.specs.Prelude.{ℕ, suc, Bool, true, false, List, [], ◌∷◌, codes}
use Rattle.fx_core.specs.declared.functions.Fun.{Fun}
use Rattle.fx_core.specs.declared.functions.Fun.TheVariants as fun
use Rattle.fx_core.specs.declared.functions.Form.{Form}
use Rattle.fx_core.specs.declared.functions.Form.TheVariants as form
use Rattle.fx_core.specs.declared.functions.Acting.{Acting}
use Rattle.fx_core.specs.declared.functions.Acting.TheVariants as acting
use Rattle.fx_types.specs.declared.formats.TimeUnit.TheVariants as unit
use Rattle.fx_core.specs.declared.literals.SortOrder.TheVariants as order
use Rattle.fx_core.specs.declared.signatures.SigShape.{SigShape}
use Rattle.fx_core.specs.declared.signatures.SigShape.TheVariants as shape
use Rattle.fx_core.specs.declared.signatures.Signature.{Signature}
use Rattle.fx_core.specs.Rows.{row_of, form_row}

-- a function's entry: its name, how its arguments choose what is called, the least and the greatest
-- number of arguments, and whether it changes state
pub record Entry : Type 0 where
  pub name : List ℕ
  pub shape : SigShape
  pub least : ℕ
  pub most : ℕ
  pub acts : Bool

-- what an entry of the table in memory is seen as
abbrev pub entry : Signature → Entry
entry s = record {
  name = s.name.now;
  shape = s.shape;
  least = s.least;
  most = s.most;
  acts = s.acts;
}

-- a function under one name, with as many arguments as its row says
abbrev pub calls : List ℕ → Fun → Entry
calls name f = record {
  name = name;
  shape = shape.One f;
  least = (row_of f).least;
  most = (row_of f).most;
  acts = false;
}

-- the same with one more argument at most, a literal
abbrev pub calls_by_literal : List ℕ → Fun → Entry
calls_by_literal name f = record {
  name = name;
  shape = shape.Literal f;
  least = (row_of f).least;
  most = suc (row_of f).most;
  acts = false;
}

-- the function of scalars, and under the same name that of the rows of a table
abbrev pub calls_either : List ℕ → Fun → Fun → Entry
calls_either name f g = record {
  name = name;
  shape = shape.Either f g;
  least = (row_of f).least;
  most = (row_of f).most;
  acts = false;
}

-- a form
abbrev pub chooses : List ℕ → Form → Entry
chooses name f = record {
  name = name;
  shape = shape.Form f;
  least = (form_row f).least;
  most = (form_row f).most;
  acts = false;
}

-- a call that has a rule of its own
abbrev pub special_entry : List ℕ → SigShape → ℕ → ℕ → Entry
special_entry name s least most = record {
  name = name;
  shape = s;
  least = least;
  most = most;
  acts = false;
}

-- a function that changes state
abbrev pub acting_entry : List ℕ → Acting → ℕ → ℕ → Entry
acting_entry name a least most = record {
  name = name;
  shape = shape.Act a;
  least = least;
  most = most;
  acts = true;
}

-- all functions, each once
unfoldable pub entries : List Entry
entries =
    calls (codes "Abs") fun.Abs
    ∷ calls (codes "Int") fun.Int
    ∷ calls (codes "Trunc") fun.Trunc
    ∷ calls (codes "Round") fun.Round
    ∷ calls (codes "RoundUp") fun.RoundUp
    ∷ calls (codes "RoundDown") fun.RoundDown
    ∷ calls (codes "Mod") fun.Mod
    ∷ calls (codes "Power") fun.Power
    ∷ calls_either (codes "Sum") fun.Sum fun.SumRows
    ∷ calls_either (codes "Min") fun.Min fun.MinRows
    ∷ calls_either (codes "Max") fun.Max fun.MaxRows
    ∷ calls_either (codes "Average") fun.Average fun.AverageRows
    ∷ calls (codes "Value") fun.Value
    ∷ calls (codes "Len") fun.Len
    ∷ calls (codes "Left") fun.Left
    ∷ calls (codes "Right") fun.Right
    ∷ calls (codes "Mid") fun.Mid
    ∷ calls (codes "Lower") fun.Lower
    ∷ calls (codes "Upper") fun.Upper
    ∷ calls (codes "Trim") fun.Trim
    ∷ calls (codes "Find") fun.Find
    ∷ calls (codes "Substitute") fun.Substitute
    ∷ calls (codes "Replace") fun.Replace
    ∷ calls (codes "StartsWith") fun.StartsWith
    ∷ calls (codes "EndsWith") fun.EndsWith
    ∷ calls (codes "Concatenate") fun.Concatenate
    ∷ calls_by_literal (codes "Text") fun.Text
    ∷ chooses (codes "If") form.If
    ∷ chooses (codes "Switch") form.Switch
    ∷ chooses (codes "And") form.All
    ∷ chooses (codes "Or") form.Any
    ∷ calls (codes "Blank") fun.Blank
    ∷ calls (codes "IsBlank") fun.IsBlank
    ∷ calls (codes "Coalesce") fun.Coalesce
    ∷ chooses (codes "IfError") form.IfError
    ∷ calls (codes "IsError") fun.IsError
    ∷ calls (codes "IsBlankOrError") fun.IsBlankOrError
    ∷ calls (codes "Error") fun.Error
    ∷ calls (codes "Date") fun.Date
    ∷ calls_by_literal (codes "DateAdd") (fun.DateAdd unit.Days)
    ∷ calls_by_literal (codes "DateDiff") (fun.DateDiff unit.Days)
    ∷ calls (codes "Day") fun.Day
    ∷ calls (codes "Month") fun.Month
    ∷ calls (codes "Year") fun.Year
    ∷ calls (codes "Weekday") fun.Weekday
    ∷ special_entry (codes "Today") shape.Today 0 0
    ∷ calls (codes "DateValue") fun.DateValue
    ∷ special_entry (codes "Table") shape.Table 1 255
    ∷ calls (codes "Filter") fun.Filter
    ∷ calls (codes "LookUp") fun.LookUp
    ∷ calls_by_literal (codes "Sort") (fun.Sort order.Ascending)
    ∷ calls (codes "First") fun.First
    ∷ calls (codes "Last") fun.Last
    ∷ calls (codes "FirstN") fun.FirstN
    ∷ calls (codes "LastN") fun.LastN
    ∷ calls (codes "CountRows") fun.CountRows
    ∷ calls (codes "CountIf") fun.CountIf
    ∷ calls (codes "IsEmpty") fun.IsEmpty
    ∷ calls (codes "AddColumns") fun.AddColumns
    ∷ calls (codes "DropColumns") fun.DropColumns
    ∷ calls (codes "ShowColumns") fun.ShowColumns
    ∷ calls (codes "RenameColumns") fun.RenameColumns
    ∷ calls (codes "GroupBy") fun.GroupBy
    ∷ calls (codes "Ungroup") fun.Ungroup
    ∷ calls (codes "Distinct") fun.Distinct
    ∷ calls (codes "ForAll") fun.ForAll
    ∷ special_entry (codes "With") shape.With 2 2
    ∷ calls (codes "Concat") fun.Concat
    ∷ special_entry (codes "Defaults") shape.Defaults 1 1
    ∷ acting_entry (codes "Set") acting.Set 2 2
    ∷ acting_entry (codes "UpdateContext") acting.UpdateContext 1 1
    ∷ acting_entry (codes "Collect") acting.Collect 2 255
    ∷ acting_entry (codes "Clear") acting.Clear 1 1
    ∷ acting_entry (codes "ClearCollect") acting.ClearCollect 2 255
    ∷ acting_entry (codes "Patch") acting.Patch 3 255
    ∷ acting_entry (codes "Remove") acting.Remove 2 255
    ∷ acting_entry (codes "RemoveIf") acting.RemoveIf 2 255
    ∷ acting_entry (codes "UpdateIf") acting.UpdateIf 3 3
    ∷ acting_entry (codes "Navigate") acting.Navigate 1 1
    ∷ acting_entry (codes "Notify") acting.Notify 1 1
    ∷ acting_entry (codes "Reset") acting.Reset 1 1
    ∷ []
