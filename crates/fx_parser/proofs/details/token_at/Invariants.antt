use Rattle.std.proofs.Common.{◌≡◌, drop}
use Rattle.fx_parser.specs.Details.{token_at}
use Rattle.fx_parser.proofs.details.token_at.Given as goal

abbrev pub invariant-loop-token : goal.invariant-loop-token
invariant-loop-token l = token_at l.at (drop l.token-index l.tokens) ≡ token_at l.at l.tokens
