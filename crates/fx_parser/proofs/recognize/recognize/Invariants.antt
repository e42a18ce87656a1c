use Rattle.std.proofs.Common.{◌≡◌, [], Some, take, reverse}
use Rattle.fx_parser.specs.Machine.{run}
use Rattle.fx_parser.proofs.recognize.recognize.Given as goal

abbrev pub invariant-loop-i : goal.invariant-loop-i
invariant-loop-i l = run l.whole l.fn.start [] (take l.i l.items) ≡ Some (l.state, reverse l.opened.items)
