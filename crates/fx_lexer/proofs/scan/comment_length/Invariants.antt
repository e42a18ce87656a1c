use Rattle.std.proofs.Common.{◌≡◌, ℕ, ◌+◌, length, Option, Some, None}
use Rattle.fx_lexer.specs.Scan.{comment_run}
use Rattle.fx_lexer.proofs.scan.comment_length.Given as goal

-- n characters further
abbrev further : ℕ → Option ℕ → Option ℕ
further n None = None
further n (Some k) = Some (n + k)

abbrev pub invariant-loop-rest : goal.invariant-loop-rest
invariant-loop-rest l = (l.n + length l.rest ≡ length l.cs) × (further l.n (comment_run l.rest) ≡ comment_run l.cs)

abbrev pub decreases-loop-rest : goal.decreases-loop-rest
decreases-loop-rest l = length l.rest
