-- The tests of a condition.
use Rattle.std.specs.Prelude.{Bool, false, if◌then◌else◌}
use Rattle.sqlite.specs.declared.types.Value.{Value}
use Rattle.sqlite.specs.Order.{value_cmp}
use Rattle.sqlite.specs.Ops.{is_null, test}
use Rattle.sqlite_sql.specs.declared.ops.CompareOp.{CompareOp}

-- a test passes no NULL
abbrev pub compares : CompareOp → Value → Value → Bool
compares op v w = if is_null v then false else test op (value_cmp v w)
