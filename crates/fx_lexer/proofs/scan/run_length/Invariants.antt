use Rattle.std.proofs.Common.{◌≡◌, ◌+◌, drop}
use Rattle.fx_lexer.specs.Scan.{run_length, passes}
use Rattle.fx_lexer.proofs.scan.run_length.Given as goal

abbrev pub invariant-loop-c : goal.invariant-loop-c
invariant-loop-c l = (l.n ≡ l.c-index) × (l.n + run_length (passes l.of) (drop l.c-index l.cs) ≡ run_length (passes l.of) l.cs)
