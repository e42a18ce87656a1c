use Rattle.std.proofs.Common.{◌≡◌, ◌++◌, ◌+◌, suc, take}
use Rattle.row_plan.specs.Plan.{added_statements}
use Rattle.row_plan.specs.Shown.{all_shown}
use Rattle.row_plan.proofs.planning.push_added.Given as goal

abbrev pub invariant-loop-body : goal.invariant-loop-body
invariant-loop-body l = record {
  counted : l.last ≡ l.changes.first + l.body-index;
  written : all_shown l.steps.items ≡ all_shown l.initial.steps.items ++ added_statements l.tab l.columns (suc l.changes.first) (take l.body-index l.changes.added.items);
}
