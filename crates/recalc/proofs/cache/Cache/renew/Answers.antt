use Rattle.std.proofs.Common.{ℕ, ap, arith, inl, inr, refl, subst, sym}
use Rattle.std.proofs.lemmas.Option.{slice_get_within}
use Rattle.std.proofs.lemmas.Result.{on_ok_weaker}
use Rattle.recalc.proofs.CellVisits.{ok_two}
use Rattle.recalc.proofs.Setting.{confirmed_brought, confirmed_order, confirmed_right}
use Rattle.recalc.specs.Kept.{IsInOrder, CacheState}
use Rattle.recalc.specs.Outcomes.{IsRightOver}
use Rattle.recalc.specs.Steps.{IsBrought, confirmed}
use Rattle.recalc.proofs.cache.Cache.renew.Goals as goal

pub confirm-requires : goal.confirm-requires
confirm-requires g c =
    let low = slice_get_within c.args.app.now.cells c.args.cell c.args.info.now c.requires.there in
    let stamps = c.requires.order.stamps in
    omega (arith, low, stamps)

pub returns-in-Some-clause-order : goal.returns-in-Some-clause-order
returns-in-Some-clause-order g c =
    let kept = c.in-Some.ensures.some in
    subst (IsInOrder c.args.app.now) (sym c.confirm.ensures)
    (subst (λ (n : ℕ). IsInOrder c.args.app.now (confirmed c.args.self.now c.args.cell n)) (sym kept.2)
    (confirmed_order c.args.app.now c.args.self.now c.args.cell c.args.info.now c.requires.sound c.requires.there c.requires.self_alone c.requires.unclean c.requires.leans c.requires.order kept.0 kept.1 kept.3))

pub returns-in-Some-clause-right : goal.returns-in-Some-clause-right
returns-in-Some-clause-right g c = λ right.
    let kept = c.in-Some.ensures.some in
    subst (λ (x : CacheState). IsRightOver c.args.app.now c.args.session.now (g.K.Keeper.told c.args.keeper.now) c.args.moment x) (sym c.confirm.ensures)
    (subst (λ (n : ℕ). IsRightOver c.args.app.now c.args.session.now (g.K.Keeper.told c.args.keeper.now) c.args.moment (confirmed c.args.self.now c.args.cell n)) (sym kept.2)
    (confirmed_right c.args.app.now c.args.self.now c.args.cell c.args.info.now c.requires.sound c.requires.there c.requires.self_alone c.requires.unclean c.requires.leans c.requires.order kept.0 kept.1 kept.3
    c.args.session.now (g.K.Keeper.told c.args.keeper.now) c.args.moment right))

pub returns-in-Some-clause-brought : goal.returns-in-Some-clause-brought
returns-in-Some-clause-brought g c =
    let kept = c.in-Some.ensures.some in
    subst (IsBrought c.args.app.now c.args.cell c.args.self.now) (sym c.confirm.ensures)
    (subst (λ (n : ℕ). IsBrought c.args.app.now c.args.cell c.args.self.now (confirmed c.args.self.now c.args.cell n)) (sym kept.2)
    (confirmed_brought c.args.app.now c.args.self.now c.args.cell c.args.info.now c.requires.sound c.requires.there c.requires.self_alone c.requires.unclean c.requires.leans c.requires.order kept.0 kept.1 kept.3))

pub returns-in-Some-clause-ticks : goal.returns-in-Some-clause-ticks
returns-in-Some-clause-ticks g c = inr (refl, ap (λ (x : CacheState). x.last) c.confirm.ensures)

pub returns-in-None-clause-ticks : goal.returns-in-None-clause-ticks
returns-in-None-clause-ticks g c = on_ok_weaker c.evaluate.result (λ s. inl (s.0, s.1, c.in-None.ensures.none refl)) c.evaluate.ensures.stepped

pub returns-in-None-clause-idle : goal.returns-in-None-clause-idle
returns-in-None-clause-idle g c = on_ok_weaker c.evaluate.result (λ s same. let one = s.0 in absurd (omega (arith, one, same))) c.evaluate.ensures.stepped

pub returns-in-Some-clause-visits : goal.returns-in-Some-clause-visits
returns-in-Some-clause-visits g c = λ right t told. inr (refl, omega arith)

pub returns-in-None-clause-visits : goal.returns-in-None-clause-visits
returns-in-None-clause-visits g c = λ right. ok_two c.evaluate.result (λ s v t told. inl (s.0, v t told)) c.evaluate.ensures.stepped (c.evaluate.ensures.visits right)
