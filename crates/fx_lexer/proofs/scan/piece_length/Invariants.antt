use Rattle.std.proofs.Common.{◌≡◌, ◌+◌, length}
use Rattle.fx_lexer.specs.Scan.{weave_run}
use Rattle.fx_lexer.proofs.scan.piece_length.Given as goal

abbrev pub invariant-loop-rest : goal.invariant-loop-rest
invariant-loop-rest l = (l.n + length l.rest ≡ length l.cs) × (l.n + weave_run l.rest ≡ weave_run l.cs)

abbrev pub decreases-loop-rest : goal.decreases-loop-rest
decreases-loop-rest l = length l.rest
