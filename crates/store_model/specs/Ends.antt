-- How calls of a keeper end.
use Rattle.std.specs.Prelude.{Bool, true, false, Result, Ok, Err}
use Rattle.row_keeper.specs.declared.keeper.KeeperEnd.{KeeperEnd}
use Rattle.row_keeper.specs.declared.keeper.KeeperEnd.TheVariants.{Memory, Failed}

-- a call has failed, and not for want of memory
abbrev pub call_failed : {T : Type 0} → Result T KeeperEnd → Bool
call_failed (Ok x) = false
call_failed (Err Memory) = false
call_failed (Err Failed) = true
