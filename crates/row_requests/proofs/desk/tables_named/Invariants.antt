use Rattle.std.proofs.Common.{◌≡◌, take}
use Rattle.row_requests.specs.Written.{tables_named}
use Rattle.row_requests.proofs.desk.tables_named.Given as goal

abbrev pub invariant-loop-change : goal.invariant-loop-change
invariant-loop-change l = l.tables.items ≡ tables_named l.schema.tables (take l.change-index l.changes)
