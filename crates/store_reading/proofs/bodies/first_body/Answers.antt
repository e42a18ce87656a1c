use Rattle.std.proofs.Common.{sym}
use Rattle.store_reading.proofs.BodyLemmas.{no_line, one_line}
use Rattle.store_reading.proofs.DecodeLemmas.{if_ok}
use Rattle.store_reading.proofs.bodies.first_body.Goals as goal

pub returns-in-None : goal.returns-in-None
returns-in-None c = λ xs is. sym (no_line c.args.lines.now xs (sym c.in-None.ensures.value) is)

pub returns-in-Some : goal.returns-in-Some
returns-in-Some c = if_ok c.body_of.result c.body_of.ensures (λ o told xs is. one_line c.args.lines.now c.in-Some.line.now xs _ (sym c.in-Some.ensures.value) is told)
