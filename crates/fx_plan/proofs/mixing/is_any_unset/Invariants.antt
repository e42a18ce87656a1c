use Rattle.std.proofs.Common.{◌≡◌, drop, not}
use Rattle.std.specs.List.{list_any}
use Rattle.fx_plan.proofs.mixing.is_any_unset.Given as goal

-- all of those that were seen are set
abbrev pub invariant-loop-mark : goal.invariant-loop-mark
invariant-loop-mark l = list_any not (drop l.mark-index l.marks) ≡ list_any not l.marks
