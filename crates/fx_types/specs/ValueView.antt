-- What a value is seen as.
use Rattle.std.specs.Prelude.{ℕ, List, map}
use Rattle.fx_types.specs.Values.{Data, blank, number, text, boolean, date, rec, tab, fault}
use Rattle.fx_types.specs.Values.{field_list, row_list}
use Rattle.fx_types.specs.declared.values.Value.{Value}
use Rattle.fx_types.specs.declared.values.Value.TheVariants.{Blank, Number, Text, Boolean, Date}
use Rattle.fx_types.specs.declared.values.Value.TheVariants.{Rec, Tab, Fault}

abbrev pub view : Value → Data
view Blank = blank
view (Number n) = number n
view (Text w) = text w
view (Boolean b) = boolean b
view (Date d) = date d
view (Rec fs) = rec (field_list fs)
view (Tab rs) = tab (row_list rs)
view (Fault f) = fault f.kind f.message

abbrev pub fields_view : List (List ℕ × Value) → List (List ℕ × Data)
fields_view = map (λ f. (f.0, view f.1))
