use Rattle.std.proofs.Common.{◌+◌, ◌-◌, ◌≤◌, length, drop}
use Rattle.fx_types.specs.Types.{column_list, shape_size, columns_size}
use Rattle.fx_types.specs.TypeView.{shape}
use Rattle.fx_value.proofs.JoinSteps.{IsJoined}
use Rattle.fx_value.proofs.joining.+join.Given as goal

abbrev pub decreases-join : goal.decreases-join
decreases-join l = shape_size (shape l.a.now)

abbrev pub decreases-join_columns : goal.decreases-join_columns
decreases-join_columns l = columns_size (column_list l.a.now)

abbrev pub invariant-join_columns-merge : goal.invariant-join_columns-merge
invariant-join_columns-merge l = record {
  value : IsJoined l.a l.b l.joined.items (drop l.i l.xs) (drop l.j l.ys);
  turned : IsJoined l.b l.a l.joined.items (drop l.j l.ys) (drop l.i l.xs);
  first : l.i ≤ length l.xs;
  second : l.j ≤ length l.ys;
}

abbrev pub decreases-join_columns-merge : goal.decreases-join_columns-merge
decreases-join_columns-merge l = (length l.xs - l.i) + (length l.ys - l.j)
