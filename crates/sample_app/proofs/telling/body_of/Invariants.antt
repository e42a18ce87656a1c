use Rattle.std.proofs.Common.{◌≡◌, drop}
use Rattle.sample_app.specs.Summary.{reply_body as body_in}
use Rattle.sample_app.proofs.telling.body_of.Given as goal

abbrev pub invariant-loop-at : goal.invariant-loop-at
invariant-loop-at l = body_in (drop l.at l.reply) ≡ body_in l.reply
