use Rattle.std.proofs.Common.{◌≡◌, ◌+◌, ◌++◌, length}
use Rattle.app_loader.proofs.Merging.{merge}
use Rattle.app_loader.proofs.supports.merge.Given as goal

-- what is merged, before what is left merged, is all
abbrev pub invariant-loop-one : goal.invariant-loop-one
invariant-loop-one l = l.all.items ++ merge l.left l.right ≡ merge l.fn.left l.fn.right

abbrev pub decreases-loop-one : goal.decreases-loop-one
decreases-loop-one l = length l.left + length l.right
