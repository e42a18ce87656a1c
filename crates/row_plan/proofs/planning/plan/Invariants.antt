use Rattle.std.proofs.Common.{◌≡◌, ◌≤◌, length, take}
use Rattle.row_plan.specs.Shown.{all_shown}
use Rattle.row_plan.specs.Written.{all_statements}
use Rattle.row_plan.proofs.planning.plan.Given as goal

abbrev pub invariant-loop-table : goal.invariant-loop-table
invariant-loop-table l = record {
  counted : l.tab ≡ l.table-index;
  enough : l.table-index ≤ length l.changes;
  written : all_shown l.steps.items ≡ all_statements 0 (take l.table-index l.tables) (take l.table-index l.changes);
}
