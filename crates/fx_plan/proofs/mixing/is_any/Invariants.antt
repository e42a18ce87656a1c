use Rattle.std.proofs.Common.{◌≡◌, drop}
use Rattle.std.specs.List.{list_any}
use Rattle.fx_plan.proofs.mixing.is_any.Given as goal

-- none of those that were seen
abbrev pub invariant-loop-mark : goal.invariant-loop-mark
invariant-loop-mark l = list_any (λ b. b) (drop l.mark-index l.marks) ≡ list_any (λ b. b) l.marks
