-- Why a call of a keeper ends as it does.
use Rattle.std.specs.Prelude.{Option, Some, None, Result, Ok, Err, IsErrOf}
use Rattle.fx_base.specs.Faults.{Rose}
use Rattle.fx_base.specs.Silence.{Marks, IsLater}
use Rattle.row_keeper.specs.declared.keeper.KeeperEnd.{KeeperEnd}
use Rattle.row_keeper.specs.declared.keeper.KeeperEnd.TheVariants.{Failed}

-- no mark falls, and a call fails only where the count of faults rose in it
pub record HasCause {T : Type 0} (before now : Marks) (result : Result T KeeperEnd) : Type 0 where
  pub later : IsLater before now
  pub failed : IsErrOf result Failed → Rose before.faults now.faults

-- why a call gave no answer, if it gave none
abbrev pub end_of : {T : Type 0} → Result T KeeperEnd → Option KeeperEnd
end_of (Ok x) = None
end_of (Err e) = Some e
