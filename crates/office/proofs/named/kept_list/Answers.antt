use Rattle.std.proofs.Common.{List, subst, sym, ◌∙◌, ℕ}
use Rattle.std.specs.List.{Contains}
use Rattle.app_loader.specs.app_semantics.Present.{Present, present}
use Rattle.office.proofs.NamedCells.{named_alone, named_fresh, named_made}
use Rattle.office.specs.NamedReply.{AreNamedFresh}
use Rattle.recalc.specs.Steps.{OncePerCell}
use Rattle.recalc.specs.Visits.{VisitsPerCell}
use Rattle.row_keeper.specs.Tables.{rows_of_tables}
use Rattle.session_requests.specs.recalc.Values.{CellValues, value_of}
use Rattle.office.proofs.named.kept_list.Goals as goal

pub refresh-requires-clause-roots : goal.refresh-requires-clause-roots
refresh-requires-clause-roots g c = λ k h. named_alone c.args.app.now c.requires.sound k (subst (λ ks. Contains ks k) (c.deref.ensures.value ∙ c.in_ok-roots.ensures) h)

pub returns-clause-list : goal.returns-clause-list
returns-clause-list g c = λ right tables heard.
    let p : Present = present c.args.app.now c.args.session.now tables c.args.moment in
    let fresh = c.in_ok-refresh.ensures.fresh right in (
      value_of c.values.result.now,
      subst (λ (v : CellValues). AreNamedFresh p (value_of v)) (sym c.values.ensures)
          (named_fresh p (value_of c.refresh.new.self.values) (λ k among. fresh tables k heard (subst (λ ks. Contains ks k) (sym (c.deref.ensures.value ∙ c.in_ok-roots.ensures)) among))),
      c.in_ok-name_values.ensures,
    )

pub returns-clause-made : goal.returns-clause-made
returns-clause-made g c =
    named_made c.args.app.now c.refresh.new.self c.refresh.ensures.order (λ k among. c.in_ok-refresh.ensures.made k (subst (λ ks. Contains ks k) (sym (c.deref.ensures.value ∙ c.in_ok-roots.ensures)) among))

pub returns-clause-ticks : goal.returns-clause-ticks
returns-clause-ticks g c = λ room.
    subst (λ (ks : List ℕ). OncePerCell c.args.app.now ks c.args.cache.now c.refresh.new.self c.args.steps.now c.refresh.new.steps) (c.deref.ensures.value ∙ c.in_ok-roots.ensures)
    (c.in_ok-refresh.ensures.ticks room)

pub returns-clause-visits : goal.returns-clause-visits
returns-clause-visits g c = λ right room t told.
    subst (λ (ks : List ℕ). VisitsPerCell c.args.app.now c.args.session.now (rows_of_tables t.states) c.args.moment ks c.args.cache.now c.refresh.new.self c.args.steps.now c.refresh.new.steps (g.K.Keeper.visited c.args.keeper.now) (g.K.Keeper.visited c.refresh.new.keeper))
    (c.deref.ensures.value ∙ c.in_ok-roots.ensures) (c.in_ok-refresh.ensures.visits right room t told)
