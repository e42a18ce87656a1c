use Rattle.std.proofs.Common.{◌≡◌, drop}
use Rattle.std.specs.List.{find}
use Rattle.fx_tables.specs.Groups.{key_of}
use Rattle.fx_tables.specs.Unions.{is_fault}
use Rattle.fx_group.proofs.grouping.error_in.Given as goal

abbrev pub invariant-loop-key : goal.invariant-loop-key
invariant-loop-key l = find is_fault (key_of (drop l.key-index l.keys) l.row) ≡ find is_fault (key_of l.keys l.row)
