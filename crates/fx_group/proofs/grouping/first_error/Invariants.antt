use Rattle.std.proofs.Common.{◌≡◌, drop}
use Rattle.std.specs.Prelude.{flat_map}
use Rattle.std.specs.List.{find}
use Rattle.fx_tables.specs.Groups.{key_of}
use Rattle.fx_tables.specs.Unions.{is_fault}
use Rattle.fx_group.proofs.grouping.first_error.Given as goal

abbrev pub invariant-loop-row : goal.invariant-loop-row
invariant-loop-row l = find is_fault (flat_map (key_of l.keys) (drop l.row-index l.rows)) ≡ find is_fault (flat_map (key_of l.keys) l.rows)
