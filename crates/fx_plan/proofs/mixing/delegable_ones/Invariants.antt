use Rattle.std.proofs.Common.{◌≡◌, ◌++◌, drop}
use Rattle.fx_core.specs.Term.{all}
use Rattle.fx_plan.specs.Mixed.{delegable_ones}
use Rattle.fx_plan.proofs.mixing.delegable_ones.Given as goal

-- the marks so far, with those of what is left, are all
abbrev pub invariant-loop-condition : goal.invariant-loop-condition
invariant-loop-condition l = l.marks.items ++ delegable_ones l.table l.scope (all (drop l.condition-index l.conditions)) ≡ delegable_ones l.table l.scope (all l.conditions)
