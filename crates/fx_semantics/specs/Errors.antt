-- The error that was caught, as a record.
use Rattle.std.specs.Prelude.{◌≡◌, Option, Some, None}
use Rattle.fx_types.specs.declared.faults.Fault.{Fault}
use Rattle.fx_types.specs.Values.{Data}
use Rattle.fx_scalar.specs.Errors.{fault_record}

-- `FirstError`: the error that was caught
abbrev pub IsCaught : Option Fault → Data → Type 0
IsCaught (Some e) v = v ≡ fault_record e.kind e.message
IsCaught None v = ⊥
