use Rattle.std.proofs.Common.{inl, inr, None, Ok, ap, refl, sym, ◌≡◌, ◌<◌, length, subst, ◌∙◌, arith}
use Rattle.fx_cli.specs.Conversations.{Sends, StopsAt, all_moments, office_at, service_at}
use Rattle.fx_base.proofs.Silences.{later_then}
use Rattle.app_wire.specs.Doorway.{Doorway}
use Rattle.app_wire.specs.Moments.{Ticks}
use Rattle.office.proofs.Plays.{two}
use Rattle.fx_cli.proofs.Replays.{held_on, replay_stops}
use Rattle.fx_cli.proofs.replay.replay.Goals as goal

pub returns-in-Some-clause-replayed : goal.returns-in-Some-clause-replayed
returns-in-Some-clause-replayed g c =
    let inv = c.loop-held.invariant.told in
    let few : length inv.0 < c.args.most = omega (arith, c.loop-held-test.true, inv.3) in
    let same : c.one.result ≡ g.D.Doors.single c.args.doors.now = c.one.ensures ∙ c.in-Ok-Some.ensures.single ∙ c.loop-held.invariant.single in
    let stops = subst (λ o. StopsAt c.in-Ok-Some.end o c.stop_at.result) same c.stop_at.ensures in
    replay_stops c.args.most c.args.at_most
    (service_at g.D.Doors g.C.Clock (office_at c.args.office.now) c.args.doors.now c.args.clock.now)
    (service_at g.D.Doors g.C.Clock (office_at c.loop-held.office) c.loop-held.doors c.loop-held.clock)
    (service_at g.D.Doors g.C.Clock (office_at c.hold_next.new.office) c.hold_next.new.doors c.hold_next.new.clock)
    inv.0 c.in-Ok-Some.end c.in-Some.stop c.loop-held.invariant.single few inv.1 inv.2 inv.4
    (rw c.in-Ok-Some.field-0-is at c.in-Ok-Some.ensures.held) (rw c.in-Some.is at stops)

pub loop-held-preserved : goal.loop-held-preserved
loop-held-preserved g c =
    let inv = c.loop-held.invariant.told in
    let same : c.one.result ≡ g.D.Doors.single c.args.doors.now = c.one.ensures ∙ c.in-Ok-Some.ensures.single ∙ c.loop-held.invariant.single in
    let stops = subst (λ o. StopsAt c.in-Ok-Some.end o c.stop_at.result) same c.stop_at.ensures in
    record {
      told = held_on
          (service_at g.D.Doors g.C.Clock (office_at c.args.office.now) c.args.doors.now c.args.clock.now)
          (service_at g.D.Doors g.C.Clock (office_at c.loop-held.office) c.loop-held.doors c.loop-held.clock)
          (service_at g.D.Doors g.C.Clock (office_at c.hold_next.new.office) c.hold_next.new.doors c.hold_next.new.clock)
          inv.0 c.loop-held.held c.in-Ok-Some.end c.loop-held.invariant.single inv.1 inv.2 inv.3 inv.4
          (rw c.in-Ok-Some.field-0-is at c.in-Ok-Some.ensures.held) (rw c.in_default.is at stops);
      single = c.in-Ok-Some.ensures.single ∙ c.loop-held.invariant.single;
      later = omega (arith, c.loop-held.invariant.later, c.in-Ok-Some.ensures.later);
      marks = later_then _ _ _ c.loop-held.invariant.marks c.in-Ok-Some.ensures.marks;
      loan = c.in-Ok-Some.ensures.loan ∙ c.loop-held.invariant.loan;
    }

pub returns-in-Err-clause-replayed : goal.returns-in-Err-clause-replayed
returns-in-Err-clause-replayed g c =
    let inv = c.loop-held.invariant.told in
    let one = g.D.Doors.single c.args.doors.now in
    let failed = c.in-Err.ensures.failed in
    record {
      held = inv.0;
      last = None;
      mid = office_at c.loop-held.office;
      between = g.D.Doors.faults c.loop-held.doors;
      is_held = inv.2;
      ends = (inr (omega (arith, c.loop-held-test.true, inv.3), c.in-Err.ensures.cause), ap office_at failed.2);
      ticks = subst (λ k. Ticks (g.C.Clock.told c.args.clock.now) (all_moments inv.0) (g.C.Clock.told k)) (sym failed.1) inv.1;
      told = two (λ x y z s k. (subst (Sends one inv.0 x) (sym k) s, λ _. tt)) inv.4 failed.0;
    }

pub returns-clause-replayed : goal.returns-clause-replayed
returns-clause-replayed g c =
    let inv = c.loop-held.invariant.told in
    record {
      held = inv.0;
      last = None;
      mid = office_at c.loop-held.office;
      between = g.D.Doors.faults c.loop-held.doors;
      is_held = inv.2;
      ends = (inl (inv.3 ∙ omega (arith, c.loop-held-test.false, c.loop-held.auto.held-end), refl, refl), refl);
      ticks = inv.1;
      told = λ a e. let it = inv.4 a e in (it.0, it.1, (it.2, λ few. absurd (let all : length inv.0 ≡ c.args.most = inv.3 ∙ omega (arith, c.loop-held-test.false, c.loop-held.auto.held-end) in omega (arith, few, all))));
    }

pub returns-in-Ok-None-clause-replayed : goal.returns-in-Ok-None-clause-replayed
returns-in-Ok-None-clause-replayed g c =
    let inv = c.loop-held.invariant.told in
    let one = g.D.Doors.single c.args.doors.now in
    let none = ap Ok c.in-Ok-None.field-0-is in
    record {
      held = inv.0;
      last = None;
      mid = office_at c.loop-held.office;
      between = g.D.Doors.faults c.loop-held.doors;
      is_held = inv.2;
      ends = (inr (omega (arith, c.loop-held-test.true, inv.3), c.in-Ok-None.ensures.later), ap office_at (c.in-Ok-None.ensures.same none).1);
      ticks = subst (λ k. Ticks (g.C.Clock.told c.args.clock.now) (all_moments inv.0) (g.C.Clock.told k)) (sym (c.in-Ok-None.ensures.same none).0) inv.1;
      told = two (λ x y z s k. (subst (Sends one inv.0 x) (sym k.1) s, λ _. ap (λ (d : Doorway). d.coming) k.1 ∙ k.0)) inv.4 (c.in-Ok-None.ensures.none none);
    }
