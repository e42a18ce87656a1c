use Rattle.std.proofs.Common.{◌≡◌, List, ◌++◌}
use Rattle.std.specs.List.{All}
use Rattle.fx_tables.specs.Groups.{value_of}
use Rattle.fx_value.specs.Columns.{Row}
use Rattle.fx_value.specs.Keys.{IsProper}
use Rattle.fx_group.specs.Buckets.{HasKey, HoldsGroups}
use Rattle.fx_group.proofs.grouping.group_rows.Given as goal

abbrev pub invariant-loop-row : goal.invariant-loop-row
invariant-loop-row l =
    (done : List Row) × (done ++ l.row-iterator.rest.items ≡ l.fn.rows) × HoldsGroups l.keys l.buckets done × All (HasKey l.keys) l.row-iterator.rest.items
    × All (λ r. All (λ n. IsProper (value_of n r)) l.keys) done
