-- Trees have one value at most.
use Rattle.std.specs.Prelude.{◌≡◌, List, Option, Some}
use Rattle.fx_types.specs.declared.faults.Fault.{Fault}
use Rattle.fx_types.specs.Types.{Shape}
use Rattle.fx_types.specs.Values.{Data}
use Rattle.fx_core.specs.declared.sources.Source.{Source}
use Rattle.fx_core.specs.Term.{Term}
use Rattle.fx_semantics.specs.Around.{Around}
use Rattle.fx_semantics.specs.Fresh.{IsValue}
use Rattle.fx_semantics.specs.Sources.{Gives}

-- where the values of sources are told
abbrev pub told : (Source → Option Shape) → (Source → Data) → List Data → Option Data → Option Fault
    → Around
told types values rows item caught = record {
  gives = Gives types (Some values);
  rows = rows;
  item = item;
  caught = caught;
}

-- a tree has one value at most where the values of its sources are told
abbrev pub OneValue : Type 0
OneValue =
    (types : Source → Option Shape) (values : Source → Data) (rows : List Data) (item : Option Data)
    (caught : Option Fault)
    (t : Term) (v w : Data) →
    IsValue (told types values rows item caught) t v
    → IsValue (told types values rows item caught) t w → v ≡ w
