use Rattle.std.proofs.Common.{◌∙◌}
use Rattle.store_reading.proofs.BodyLemmas.{body_read}
use Rattle.store_reading.proofs.DecodeLemmas.{if_ok}
use Rattle.store_reading.proofs.bodies.body_of.Goals as goal

pub returns-in-Some : goal.returns-in-Some
returns-in-Some c = if_ok c.copied.result c.copied.ensures (λ o told x is. told ∙ body_read c.args.line.now c.in-Some.body.now x c.in-Some.ensures.some is)
