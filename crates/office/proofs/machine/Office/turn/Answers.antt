use Rattle.std.proofs.Common.{[], List, inl, inr, refl, subst, sym}
use Rattle.fx_core.specs.declared.sources.Source.TheVariants.{Today}
use Rattle.recalc.specs.Changes.{StaysCleanExcept}
use Rattle.recalc.specs.Kept.{CacheState}
use Rattle.numbered_requests.specs.declared.directory.Named.{Named}
use Rattle.office.specs.Caches.{EachCacheBecame}
use Rattle.office.specs.Leaving.{AreEachLeft, HaveTurned, day_turned}
use Rattle.office.specs.State.{OfficeView}
use Rattle.office.proofs.Leaving.{each_same, each_turned, left_none}
use Rattle.office.proofs.Sent.{kept_order}
use Rattle.office.proofs.StepLemmas.{ready_then}
use Rattle.office.proofs.Turned.{kept_today, kept_turned}
use Rattle.office.proofs.machine.Office.turn.Goals.{then-moment-self+in_ok-turn_all, else-moment-self}
use Rattle.office.proofs.machine.Office.turn.Goals as goal

pub turn_all-requires : goal.turn_all-requires
turn_all-requires g c = λ k x at.
    (kept_order c.self.inside.app (g.K.Keeper.told c.self.inside.keeper) c.self.inside.moment c.self.inside.sessions.items c.self.inside.caches.items c.self.invariant.cached k x at).places Today tt

pub invariant_of-self-2 : goal.invariant_of-self-2
invariant_of-self-2 g c =
    let app = c.self.inside.app in
    let told = g.K.Keeper.told c.self.inside.keeper in
    let sessions = c.self.inside.sessions.items in
    let caches = c.self.inside.caches.items in
    elim c.if-moment-self.branch [
      | then-moment-self+in_ok-turn_all w ↦
          rw w.self-inside-is (ready_then app _ _ told sessions c.self.inside.desks.items caches w.turn_all.new.caches.items c.self.inside.moment c.args.moment c.self.invariant
          (kept_turned app told c.self.inside.moment c.args.moment sessions caches w.turn_all.new.caches.items c.self.invariant.accepted c.self.invariant.cached w.in_ok-turn_all.ensures.turned))
      | else-moment-self w ↦
          rw w.self-inside-is (ready_then app _ _ told sessions c.self.inside.desks.items caches caches c.self.inside.moment c.args.moment c.self.invariant
          (kept_today app told c.self.inside.moment c.args.moment sessions caches c.self.invariant.accepted (sym w.if-moment-self.false) c.self.invariant.cached))
    ]

pub returns-in_err-turn_all-clause-clean : goal.returns-in_err-turn_all-clause-clean
returns-in_err-turn_all-clause-clean g c =
    let app = c.self.inside.app in
    let caches = c.self.inside.caches.items in
    subst (λ (s : OfficeView). AreEachLeft s.state.app (day_turned s.moment c.args.moment) s.caches c.turn_all.new.caches.items) c.self.view_is
    (left_none app (day_turned c.self.inside.moment c.args.moment) caches c.turn_all.new.caches.items
    (subst (λ (l : List (Named CacheState)). EachCacheBecame (λ k. StaysCleanExcept app []) caches l) (sym c.in_err-turn_all.ensures.stopped) (each_same app [] caches)))

pub returns-clause-clean : goal.returns-clause-clean
returns-clause-clean g c =
    let app = c.self.inside.app in
    let caches = c.self.inside.caches.items in
    elim c.if-moment-self.branch [
      | then-moment-self+in_ok-turn_all w ↦
          rw w.self-inside-is (subst (λ (s : OfficeView). AreEachLeft s.state.app (day_turned s.moment c.args.moment) s.caches w.turn_all.new.caches.items) c.self.view_is
          (each_turned app c.self.inside.moment c.args.moment caches w.turn_all.new.caches.items w.if-moment-self.true w.in_ok-turn_all.ensures.turned))
      | else-moment-self w ↦
          rw w.self-inside-is (subst (λ (s : OfficeView). AreEachLeft s.state.app (day_turned s.moment c.args.moment) s.caches caches) c.self.view_is
          (left_none app (day_turned c.self.inside.moment c.args.moment) caches caches (each_same app [] caches)))
    ]

pub returns-clause-turned : goal.returns-clause-turned
returns-clause-turned g c =
    let caches = c.self.inside.caches.items in
    elim c.if-moment-self.branch [
      | then-moment-self+in_ok-turn_all w ↦
          rw w.self-inside-is (subst (λ (s : OfficeView). HaveTurned s.moment c.args.moment s.caches w.turn_all.new.caches.items) c.self.view_is
          (inr (w.if-moment-self.true, w.in_ok-turn_all.ensures.turned)))
      | else-moment-self w ↦
          rw w.self-inside-is (subst (λ (s : OfficeView). HaveTurned s.moment c.args.moment s.caches caches) c.self.view_is
          (inl (w.if-moment-self.false, refl)))
    ]
