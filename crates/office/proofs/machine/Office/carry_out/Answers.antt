use Rattle.std.proofs.Common.{inl, inr, refl}
use Rattle.std.proofs.lemmas.Result.{IfOk-weaker, on_err_weaker}
use Rattle.app_wire.specs.Framing.{asked}
use Rattle.numbered_requests.specs.Replies.{said}
use Rattle.office.proofs.Costs.{costs_then}
use Rattle.office.proofs.Leaving.{acts_then, leaves_same, leaves_then, leaves_unrouted, stops_same, stops_then, stops_unrouted}
use Rattle.office.proofs.StepLemmas.{left_all, routed_then, unrouted, wrong_method}
use Rattle.office.proofs.machine.Office.carry_out.Goals as goal

pub returns-in-Ok-turn-clause-step : goal.returns-in-Ok-turn-clause-step
returns-in-Ok-turn-clause-step g c =
    IfOk-weaker c.take.result _ _ (λ r does. routed_then _ _ _ _ _ _ _ _ (asked c.args.request.now) c.in-Ok.route (said r) c.in-Ok.ensures c.turn.ensures.state c.turn.ensures.marks c.in-Ok-turn.ensures.moment does) c.take.ensures.step

pub returns-in-Err-NoRoute-clause-step : goal.returns-in-Err-NoRoute-clause-step
returns-in-Err-NoRoute-clause-step g c =
    let is = rw c.in-Err-NoRoute.field-0-is at c.in-Err-NoRoute.ensures in
    unrouted _ _ _ c.args.moment (asked c.args.request.now) _ is c.fixed_refusal.ensures.said refl

pub returns-in-Err-WrongMethod-clause-step : goal.returns-in-Err-WrongMethod-clause-step
returns-in-Err-WrongMethod-clause-step g c =
    let is = rw c.in-Err-WrongMethod.field-0-is at c.in-Err-WrongMethod.ensures in
    wrong_method _ _ _ c.args.moment (asked c.args.request.now) _ is c.fixed_refusal-in-Err-WrongMethod.ensures.said refl

pub returns-clause-stopped : goal.returns-clause-stopped
returns-clause-stopped g c = left_all _ _ _ refl

pub returns-in-Ok-turn-clause-clean : goal.returns-in-Ok-turn-clause-clean
returns-in-Ok-turn-clause-clean g c =
    leaves_then c.args.self.now.state c.turn.new.self.state c.take.new.self.state c.args.self.now.moment c.args.moment (asked c.args.request.now) c.in-Ok.route c.args.self.now.caches c.turn.new.self.caches c.take.new.self.caches c.in-Ok.ensures c.turn.ensures.state
    c.turn.ensures.clean c.take.ensures.clean

pub returns-in-Ok-clause-clean : goal.returns-in-Ok-clause-clean
returns-in-Ok-clause-clean g c = leaves_unrouted c.args.self.now.state c.turn.new.self.state c.args.self.now.moment c.args.moment (asked c.args.request.now) c.args.self.now.caches c.turn.new.self.caches c.turn.ensures.clean

pub returns-in-Err-NoRoute-clause-clean : goal.returns-in-Err-NoRoute-clause-clean
returns-in-Err-NoRoute-clause-clean g c = leaves_same c.args.self.now.state c.args.self.now.state c.args.self.now.moment c.args.moment (asked c.args.request.now) c.args.self.now.caches

pub returns-in-Err-WrongMethod-clause-clean : goal.returns-in-Err-WrongMethod-clause-clean
returns-in-Err-WrongMethod-clause-clean g c = leaves_same c.args.self.now.state c.args.self.now.state c.args.self.now.moment c.args.moment (asked c.args.request.now) c.args.self.now.caches

pub returns-clause-clean : goal.returns-clause-clean
returns-clause-clean g c = leaves_same c.args.self.now.state c.args.self.now.state c.args.self.now.moment c.args.moment (asked c.args.request.now) c.args.self.now.caches

pub returns-in-Ok-turn-clause-acted : goal.returns-in-Ok-turn-clause-acted
returns-in-Ok-turn-clause-acted g c =
    IfOk-weaker c.take.result _ _ (λ r acts.
    acts_then _ _ _ c.args.self.now.state c.turn.new.self.state c.take.new.self.state c.args.self.now.moment _ c.args.moment (asked c.args.request.now) c.in-Ok.route (said r) c.args.self.now.caches c.turn.new.self.caches c.take.new.self.caches
    c.in-Ok.ensures c.turn.ensures.state c.turn.ensures.marks c.in-Ok-turn.ensures.moment c.turn.ensures.clean acts) c.take.ensures.acted

pub returns-in-Err-NoRoute-clause-acted : goal.returns-in-Err-NoRoute-clause-acted
returns-in-Err-NoRoute-clause-acted g c = inr (inl c.fixed_refusal.ensures.said)

pub returns-in-Err-WrongMethod-clause-acted : goal.returns-in-Err-WrongMethod-clause-acted
returns-in-Err-WrongMethod-clause-acted g c = inr (inr c.fixed_refusal-in-Err-WrongMethod.ensures.said)

pub returns-in-Ok-turn-clause-costs : goal.returns-in-Ok-turn-clause-costs
returns-in-Ok-turn-clause-costs g c =
    IfOk-weaker c.take.result _ _ (λ r costs.
    costs_then c.args.self.now.state c.turn.new.self.state c.take.new.self.state c.args.self.now.moment _ c.args.moment (asked c.args.request.now) c.in-Ok.route (said r) c.args.self.now.caches c.turn.new.self.caches c.take.new.self.caches c.args.steps.now _ _ _
    c.in-Ok.ensures c.turn.ensures.state c.in-Ok-turn.ensures.moment c.turn.ensures.visited c.in-Ok-turn.ensures.turned costs) c.take.ensures.costs

pub returns-in-Err-NoRoute-clause-costs : goal.returns-in-Err-NoRoute-clause-costs
returns-in-Err-NoRoute-clause-costs g c = inr (inl c.fixed_refusal.ensures.said, (refl, refl))

pub returns-in-Err-WrongMethod-clause-costs : goal.returns-in-Err-WrongMethod-clause-costs
returns-in-Err-WrongMethod-clause-costs g c = inr (inr c.fixed_refusal-in-Err-WrongMethod.ensures.said, (refl, refl))

pub returns-in-Ok-turn-clause-cut : goal.returns-in-Ok-turn-clause-cut
returns-in-Ok-turn-clause-cut g c =
    on_err_weaker c.take.result (λ stopped.
    stops_then c.args.self.now.state c.turn.new.self.state c.take.new.self.state c.args.self.now.moment _ c.args.moment (asked c.args.request.now) c.in-Ok.route c.args.self.now.caches c.turn.new.self.caches c.take.new.self.caches c.in-Ok.ensures c.turn.ensures.state
    c.in-Ok-turn.ensures.moment c.turn.ensures.clean stopped) c.take.ensures.cut

pub returns-in-Ok-clause-cut : goal.returns-in-Ok-clause-cut
returns-in-Ok-clause-cut g c = stops_unrouted c.args.self.now.state c.turn.new.self.state c.args.self.now.moment c.args.moment (asked c.args.request.now) c.args.self.now.caches c.turn.new.self.caches c.turn.ensures.clean

pub returns-clause-cut : goal.returns-clause-cut
returns-clause-cut g c = stops_same c.args.self.now.state c.args.self.now.state c.args.self.now.moment c.args.moment (asked c.args.request.now) c.args.self.now.caches
