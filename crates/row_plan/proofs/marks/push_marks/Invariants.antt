use Rattle.std.proofs.Common.{◌≡◌, ◌++◌, take}
use Rattle.row_plan.specs.Plan.{marks_statements}
use Rattle.row_plan.specs.Shown.{all_shown, seen}
use Rattle.row_plan.proofs.marks.push_marks.Given as goal

abbrev pub invariant-loop-column : goal.invariant-loop-column
invariant-loop-column l = record {
  counted : l.last ≡ l.column-index;
  written : all_shown l.steps.items ≡ all_shown l.initial.steps.items ++ marks_statements l.tab 1 (take l.column-index l.columns) l.id (seen l.was) (seen l.now);
}
