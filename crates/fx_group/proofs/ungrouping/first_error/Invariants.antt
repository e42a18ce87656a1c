use Rattle.std.proofs.Common.{◌≡◌, drop, map}
use Rattle.std.specs.List.{find}
use Rattle.fx_tables.specs.Groups.{value_of}
use Rattle.fx_tables.specs.Unions.{is_fault}
use Rattle.fx_group.proofs.ungrouping.first_error.Given as goal

abbrev pub invariant-loop-row : goal.invariant-loop-row
invariant-loop-row l = find is_fault (map (value_of l.group) (drop l.row-index l.rows)) ≡ find is_fault (map (value_of l.group) l.rows)
