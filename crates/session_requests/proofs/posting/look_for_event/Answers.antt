use Rattle.std.proofs.Common.{◌≡◌, inl, subst, sym, ℕ, List}
use Rattle.std.proofs.Math.Logic.{∥∥₁_map}
use Rattle.std.specs.List.{Contains}
use Rattle.recalc.specs.app_semantics.Present.{present}
use Rattle.fx_scalar.specs.ScalarFunctions.{IsToday}
use Rattle.session_requests.specs.Posting.{EventLooksAt}
use Rattle.session_requests.proofs.Looked.{event_made, event_unnamed, looked_fresh}
use Rattle.session_requests.proofs.posting.look_for_event.Goals as goal

pub refresh-requires-clause-asks : goal.refresh-requires-clause-asks
refresh-requires-clause-asks g c = inl c.requires.shaped

pub returns-in_ok-refresh-in-Some-clause-cached : goal.returns-in_ok-refresh-in-Some-clause-cached
returns-in_ok-refresh-in-Some-clause-cached g c = record {
  order = c.refresh.ensures.order;
  right = ∥∥₁_map c.requires.cached.right (λ right. c.refresh.ensures.right right);
  day = subst (IsToday c.args.moment) (sym c.refresh.ensures.day) c.requires.cached.day;
}

pub returns-in_err-refresh-in-Some-clause-cached : goal.returns-in_err-refresh-in-Some-clause-cached
returns-in_err-refresh-in-Some-clause-cached g c = record {
  order = c.refresh.ensures.order;
  right = ∥∥₁_map c.requires.cached.right (λ right. c.refresh.ensures.right right);
  day = subst (IsToday c.args.moment) (sym c.refresh.ensures.day) c.requires.cached.day;
}

pub returns-in_ok-refresh-in-Some-clause-fresh : goal.returns-in_ok-refresh-in-Some-clause-fresh
returns-in_ok-refresh-in-Some-clause-fresh g c =
    ∥∥₁_map c.requires.cached.right (λ right tables heard.
    looked_fresh (present c.args.app.now c.args.session.now tables c.args.moment) (EventLooksAt c.args.app.now c.args.event.now) c.refresh.new.self c.refresh.ensures.order
    (λ d looked lone. c.in_ok-refresh-in-Some.ensures.fresh right tables d heard
    (subst (λ (l : List ℕ). Contains l d) (sym c.deref.ensures.value) (event_made c.args.app.now c.args.event.now c.in-Some.place c.in_ok-cells-in-Some.cells.items (sym c.in-Some.ensures.place) c.in_ok-cells-in-Some.ensures.shown c.in_ok-cells-in-Some.ensures.items c.in_ok-cells-in-Some.ensures.leaned d looked lone))))

pub returns-in-None-clause-fresh : goal.returns-in-None-clause-fresh
returns-in-None-clause-fresh g c =
    ∥∥₁_map c.requires.cached.right (λ right tables heard.
    looked_fresh (present c.args.app.now c.args.session.now tables c.args.moment) (EventLooksAt c.args.app.now c.args.event.now) c.args.cache.now c.requires.cached.order
    (λ d looked lone. absurd (event_unnamed c.args.app.now c.args.event.now d (sym c.in-None.ensures.place) looked)))
