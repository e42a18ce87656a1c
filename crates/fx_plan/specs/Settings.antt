-- Where a formula stands, over sources of given types of which values may be told.
use Rattle.std.specs.Prelude.{List, Option}
use Rattle.fx_types.specs.declared.faults.Fault.{Fault}
use Rattle.fx_types.specs.Types.{Shape}
use Rattle.fx_types.specs.Values.{Data}
use Rattle.fx_core.specs.declared.sources.Source.{Source}
use Rattle.fx_semantics.specs.Around.{Around}
use Rattle.fx_semantics.specs.Sources.{Gives}

-- the type of each source that may be read, the value of each where it is told, and what is around
pub record EvalSetting : Type 0 where
  pub types : Source → Option Shape
  pub told : Option (Source → Data)
  pub rows : List Data
  pub item : Option Data
  pub caught : Option Fault

abbrev pub setting_around : EvalSetting → Around
setting_around s = record {
  gives = Gives s.types s.told;
  rows = s.rows;
  item = s.item;
  caught = s.caught;
}
