use Rattle.std.proofs.Common.{◌≡◌, ◌++◌, drop}
use Rattle.office.specs.DeskEdits.{lines_of}
use Rattle.office.proofs.accepting.lines_of.Given as goal

abbrev pub invariant-loop-broken : goal.invariant-loop-broken
invariant-loop-broken l = l.lines ++ lines_of (drop l.broken-index l.breaks) ≡ lines_of l.breaks
