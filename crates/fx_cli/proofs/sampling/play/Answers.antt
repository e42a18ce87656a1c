use Rattle.std.proofs.Common.{◌≡◌, ◌∙◌, ◌++◌, [], ◌∷◌, List, ap, get_or, map, refl, subst, sym, take, arith}
use Rattle.std.specs.List.{All}
use Rattle.std.proofs.lemmas.List.{map-append, take_more}
use Rattle.std.proofs.lemmas.List.Elements.{All-push}
use Rattle.app_wire.specs.Framing.{Asked, asked}
use Rattle.app_wire.specs.declared.framer.Request.{Request}
use Rattle.fx_base.proofs.Silences.{later_then}
use Rattle.office.specs.Answers.{Exchange}
use Rattle.numbered_requests.specs.Replies.{IsReply, said}
use Rattle.numbered_requests.specs.declared.reply.Reply.{Reply}
use Rattle.fx_cli.specs.Sampled.{sample_moment}
use Rattle.fx_cli.proofs.Samples.{performs_more}
use Rattle.fx_cli.proofs.sampling.play.Goals as goal

pub loop-request-preserved : goal.loop-request-preserved
loop-request-preserved g c =
    let inv = c.loop-request.invariant.played in
    let request : Request = c.request-item.result in
    let reply : Reply = c.in_ok-reply.reply in
    let x : Exchange = record { asked = asked request; moment = sample_moment; said = said reply; marks = c.carry_out.new.self.marks; state = c.carry_out.new.self.state } in
    let next = take_more c.args.requests.now c.loop-request.request-index request (omega (arith, c.loop-request-test.true)) in
    record {
      played = record {
        exchanges = inv.exchanges ++ x ∷ [];
        asked_are = map-append (λ (y : Exchange). y.asked) inv.exchanges (x ∷ []) ∙ ap (λ (l : List Asked). l ++ asked request ∷ []) inv.asked_are
            ∙ ap (λ (r : Request). map asked (take c.loop-request.request-index c.args.requests.now) ++ asked r ∷ []) c.request-item.is
            ∙ sym (map-append asked (take c.loop-request.request-index c.args.requests.now) (get_or c.args.requests.now c.loop-request.request-index request ∷ [])) ∙ ap (map asked) (sym next);
        replies_are = map-append (λ (y : Exchange). y.said) inv.exchanges (x ∷ []) ∙ ap (λ l. l ++ said reply ∷ []) inv.replies_are ∙ sym (map-append said c.loop-request.replies.items (reply ∷ [])) ∙ ap (map said) (sym c.in_ok-push.ensures.items);
        performed = performs_more sample_moment c.args.office.now.state c.args.office.now.marks inv.exchanges c.loop-request.office.state c.loop-request.office.marks inv.performed x refl c.in_ok-reply.ensures.cause.later c.in_ok-reply.ensures.step;
      };
      whole = subst (All IsReply) (sym c.in_ok-push.ensures.items) (All-push IsReply c.loop-request.replies.items reply c.loop-request.invariant.whole c.in_ok-reply.ensures.whole);
      later = later_then _ _ _ c.loop-request.invariant.later c.in_ok-reply.ensures.cause.later;
      loan = c.in_ok-reply.ensures.loan ∙ c.loop-request.invariant.loan;
    }
