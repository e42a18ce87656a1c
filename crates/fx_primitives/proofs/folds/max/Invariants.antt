use Rattle.std.proofs.Common.{take}
use Rattle.fx_primitives.specs.Folds.{IsGreatest, nonblank}
use Rattle.fx_primitives.proofs.folds.max.Given as goal

abbrev pub invariant-loop-number : goal.invariant-loop-number
invariant-loop-number l = IsGreatest (nonblank (take l.number-index l.numbers)) l.greatest
