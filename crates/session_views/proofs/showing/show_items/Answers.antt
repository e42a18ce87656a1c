use Rattle.std.proofs.Common.{Option, refl, subst, ℕ, arith}
use Rattle.std.proofs.lemmas.Result.{IfOk-weaker}
use Rattle.recalc.specs.app_semantics.Present.{present}
use Rattle.session_views.specs.Shows.{CostsItems, MakesItems, SaysItemsOf, VisitsItems}
use Rattle.fx_base.specs.Silence.{SilenceCause}
use Rattle.numbered_requests.specs.Replies.{said}
use Rattle.row_keeper.specs.Tables.{rows_told, rows_of_tables}
use Rattle.session_views.proofs.showing.show_items.Goals as goal

pub gallery_named-requires : goal.gallery_named-requires
gallery_named-requires g c = c.requires.sound.names.controls.0

pub returns-in-Some-clause-done : goal.returns-in-Some-clause-done
returns-in-Some-clause-done g c =
    let was = g.K.Keeper.told c.args.keeper.now in
    let told = g.K.Keeper.told c.show_items_of.new.keeper in
    let lost = SilenceCause (g.K.Keeper.marks c.args.keeper.now) (g.K.Keeper.marks c.show_items_of.new.keeper) in
    IfOk-weaker c.show_items_of.result _ _ (λ r h.
    subst (λ (o : Option ℕ). SaysItemsOf lost (present c.args.app.now c.args.session.now (rows_told told) c.args.moment) c.args.from o was (said r) told) c.in-Some.ensures.place h)
    c.show_items_of.ensures.done

pub returns-in_ok-refuse_plain-in-None-clause-done : goal.returns-in_ok-refuse_plain-in-None-clause-done
returns-in_ok-refuse_plain-in-None-clause-done g c =
    let told = g.K.Keeper.told c.args.keeper.now in
    let lost = SilenceCause (g.K.Keeper.marks c.args.keeper.now) (g.K.Keeper.marks c.args.keeper.now) in
    subst (λ (o : Option ℕ). SaysItemsOf lost (present c.args.app.now c.args.session.now (rows_told told) c.args.moment) c.args.from o told (said c.in_ok-refuse_plain-in-None.field-0) told)
    c.in-None.ensures.place (c.in_ok-refuse_plain-in-None.ensures.said, refl)

pub returns-in-Some-clause-made : goal.returns-in-Some-clause-made
returns-in-Some-clause-made g c =
    IfOk-weaker c.show_items_of.result _ _ (λ r h. subst (λ (o : Option ℕ). MakesItems c.args.app.now o c.show_items_of.new.cache) c.in-Some.ensures.place h) c.show_items_of.ensures.made

pub returns-in-Some-clause-ticks : goal.returns-in-Some-clause-ticks
returns-in-Some-clause-ticks g c =
    IfOk-weaker c.show_items_of.result _ _ (λ r h room.
    subst (λ (o : Option ℕ). CostsItems c.args.app.now o c.args.cache.now c.show_items_of.new.cache c.args.steps.now c.show_items_of.new.steps (said r)) c.in-Some.ensures.place (h room))
    c.show_items_of.ensures.ticks

pub returns-in-Some-clause-visits : goal.returns-in-Some-clause-visits
returns-in-Some-clause-visits g c =
    IfOk-weaker c.show_items_of.result _ _ (λ r h room t told.
    subst (λ (o : Option ℕ). VisitsItems c.args.app.now c.args.session.now (rows_of_tables t.states) c.args.moment c.args.from o c.args.cache.now c.show_items_of.new.cache c.args.steps.now (g.K.Keeper.visited c.args.keeper.now) (g.K.Keeper.visited c.show_items_of.new.keeper) (said r)) c.in-Some.ensures.place (h room t told))
    c.show_items_of.ensures.visits

pub returns-in_ok-refuse_plain-in-None-clause-visits : goal.returns-in_ok-refuse_plain-in-None-clause-visits
returns-in_ok-refuse_plain-in-None-clause-visits g c = λ room t told.
    subst (λ (o : Option ℕ). VisitsItems c.args.app.now c.args.session.now (rows_of_tables t.states) c.args.moment c.args.from o c.args.cache.now c.args.cache.now c.args.steps.now (g.K.Keeper.visited c.args.keeper.now) (g.K.Keeper.visited c.args.keeper.now) (said c.in_ok-refuse_plain-in-None.field-0)) c.in-None.ensures.place
    (omega arith)
