use Rattle.std.proofs.Common.{◌≤◌, take}
use Rattle.fx_primitives.specs.Folds.{AreSummedUp, nonblank}
use Rattle.fx_primitives.proofs.folds.count_and_total.Given as goal

abbrev pub invariant-loop-number : goal.invariant-loop-number
invariant-loop-number l = (l.count ≤ l.number-index) × AreSummedUp (nonblank (take l.number-index l.numbers)) l.count l.total
