use Rattle.std.proofs.Common.{◌≡◌, ℕ, ◌+◌, List, drop, Bool, true, false, Option, Some, None}
use Rattle.fx_lexer.specs.Scan.{open_run, closed_run}
use Rattle.fx_lexer.proofs.scan.quoted_length.Given as goal

-- n characters further
abbrev further : ℕ → Option ℕ → Option ℕ
further n None = None
further n (Some k) = Some (n + k)

abbrev going : Bool → ℕ → List ℕ → Option ℕ
going true q cs = closed_run q cs
going false q cs = open_run q cs

abbrev pub invariant-loop-c : goal.invariant-loop-c
invariant-loop-c l = (l.n ≡ l.c-index) × (further l.n (going l.closed l.quote (drop l.c-index l.cs)) ≡ open_run l.quote l.cs)
