use Rattle.std.proofs.Common.{◌≡◌, ◌++◌, map}
use Rattle.std.specs.List.{All}
use Rattle.fx_tables.specs.Groups.{IsApart, with_fields}
use Rattle.fx_group.proofs.ungrouping.put_beside.Given as goal

abbrev pub invariant-loop-row : goal.invariant-loop-row
invariant-loop-row l = record {
  value : l.all.items ++ map (λ s. with_fields s l.others) l.row-iterator.rest.items ≡ l.fn.all.items ++ map (λ s. with_fields s l.others) l.fn.rows;
  free : All (IsApart l.others) l.row-iterator.rest.items;
}
