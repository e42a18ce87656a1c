use Rattle.std.proofs.Common.{◌≡◌, ◌++◌, flat_map, map}
use Rattle.std.specs.Map.Iter.{deref_pair}
use Rattle.row_plan.specs.Plan.{change_statements}
use Rattle.row_plan.specs.Shown.{all_shown}
use Rattle.row_plan.proofs.planning.push_changed.Given as goal

abbrev pub invariant-loop-id : goal.invariant-loop-id
invariant-loop-id l = all_shown l.steps.items ≡ all_shown l.initial.steps.items ++ flat_map (change_statements l.tab l.columns) (map deref_pair l.yielded)
