-- Why statements are no longer taken.
use Rattle.sqlite.specs.State.{State, Fails}
use Rattle.sqlite.specs.declared.error.Error.{Error}

-- a statement was refused since memory ran out, the disk failed, or the connection was shut
abbrev pub IsRefusedAgain : State → State → Type 0
IsRefusedAgain old new = (e : Error) × Fails old new ⊥ e
