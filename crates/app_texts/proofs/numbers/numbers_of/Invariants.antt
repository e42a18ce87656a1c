use Rattle.std.proofs.Common.{take}
use Rattle.app_texts.specs.Numbers.{AreNumbers}
use Rattle.app_texts.proofs.numbers.numbers_of.Given as goal

abbrev pub invariant-loop-number : goal.invariant-loop-number
invariant-loop-number l = AreNumbers l.numbers (take l.number l.cells)
