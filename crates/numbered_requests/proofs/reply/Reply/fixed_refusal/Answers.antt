use Rattle.std.proofs.Common.{ap, sym}
use Rattle.app_wire.specs.ReplyBytes.{refusal, refusal_body, reply}
use Rattle.numbered_requests.proofs.reply.Reply.fixed_refusal.Goals as goal

pub returns-clause-whole : goal.returns-clause-whole
unfolding refusal
returns-clause-whole c = record {
  fixed = c.requires.fixed;
  body = refusal_body c.args.code;
  whole = ap (λ status. reply status (refusal_body c.args.code)) (sym c.requires.status);
}
