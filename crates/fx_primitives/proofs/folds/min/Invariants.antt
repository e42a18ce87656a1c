use Rattle.std.proofs.Common.{take}
use Rattle.fx_primitives.specs.Folds.{IsLeast, nonblank}
use Rattle.fx_primitives.proofs.folds.min.Given as goal

abbrev pub invariant-loop-number : goal.invariant-loop-number
invariant-loop-number l = IsLeast (nonblank (take l.number-index l.numbers)) l.least
