use Rattle.std.proofs.Common.{Option, Some, None, inl, refl, sym, ◌∙◌, subst}
use Rattle.std.proofs.lemmas.Result.{IfOk-weaker}
use Rattle.numbered_requests.specs.Replies.{said}
use Rattle.view_text.specs.declared.refused.Refusal.{Refusal}
use Rattle.office.specs.Replacing.{MovesEnd}
use Rattle.office.specs.Served.{office_of, silence}
use Rattle.office.specs.State.{schema_of}
use Rattle.office.proofs.Leaving.{err_always}
use Rattle.office.proofs.MoveReplies.{moves_fit_reply, refusal_is}
use Rattle.office.proofs.Served.{stays_same}
use Rattle.office.proofs.replacing.go_over.Goals as goal

-- there is no memory
pub returns-in_err-refusal-clause-stopped : goal.returns-in_err-refusal-clause-stopped
returns-in_err-refusal-clause-stopped g c = err_always _ _ (stays_same _ _ c.requires.ready.0 c.requires.ready.1)

-- a move is refused
pub refuse-requires : goal.refuse-requires
refuse-requires g c =
    moves_fit_reply c.as_slice-olds.result.now c.as_slice-news.result.now c.as_slice.result.now c.in-Some.refusal (sym c.in_ok-refusal.ensures ∙ c.in-Some.is)

pub returns-in_ok-refuse-in-Some-clause-done : goal.returns-in_ok-refuse-in-Some-clause-done
returns-in_ok-refuse-in-Some-clause-done g c =
    let s = office_of g.K.Keeper c.args.app.now c.args.keeper.now c.args.sessions.now.items c.args.desks.now.items in
    let lost = silence g.K.Keeper c.args.keeper.now c.args.keeper.now in
    let is = refusal_is (schema_of c.args.app.now).tables c.as_slice-olds.result.now (schema_of c.args.coming).tables c.as_slice-news.result.now c.args.asked.now.moves c.as_slice.result.now c.in_ok-refusal.field-0 (Some c.in-Some.refusal)
    c.as_slice-olds.ensures c.as_slice-news.ensures c.as_slice.ensures c.in_ok-refusal.ensures c.in-Some.is in
    subst (λ (o : Option Refusal). MovesEnd lost c.args.name.now c.args.body.now c.args.asked.now c.args.coming o s (said c.in_ok-refuse-in-Some.field-0) s) (sym is) (c.in_ok-refuse-in-Some.ensures.said, refl)

pub returns-in_ok-refuse-in-Some-clause-becomes : goal.returns-in_ok-refuse-in-Some-clause-becomes
returns-in_ok-refuse-in-Some-clause-becomes g c = inl (stays_same _ _ c.requires.ready.0 c.requires.ready.1)

pub returns-in_err-refuse-in-Some-clause-stopped : goal.returns-in_err-refuse-in-Some-clause-stopped
returns-in_err-refuse-in-Some-clause-stopped g c = err_always _ _ (stays_same _ _ c.requires.ready.0 c.requires.ready.1)

-- none is
pub move_over-requires-clause-fine : goal.move_over-requires-clause-fine
move_over-requires-clause-fine g c =
    refusal_is (schema_of c.args.app.now).tables c.as_slice-olds.result.now (schema_of c.args.coming).tables c.as_slice-news.result.now c.args.asked.now.moves c.as_slice.result.now c.in_ok-refusal.field-0 None
    c.as_slice-olds.ensures c.as_slice-news.ensures c.as_slice.ensures c.in_ok-refusal.ensures c.in-None.is

pub returns-in-None-clause-done : goal.returns-in-None-clause-done
returns-in-None-clause-done g c =
    let s = office_of g.K.Keeper c.args.app.now c.args.keeper.now c.args.sessions.now.items c.args.desks.now.items in
    let new = office_of g.K.Keeper c.move_over.new.app c.move_over.new.keeper c.move_over.new.sessions.items c.move_over.new.desks.items in
    let lost = silence g.K.Keeper c.args.keeper.now c.move_over.new.keeper in
    let is = refusal_is (schema_of c.args.app.now).tables c.as_slice-olds.result.now (schema_of c.args.coming).tables c.as_slice-news.result.now c.args.asked.now.moves c.as_slice.result.now c.in_ok-refusal.field-0 None
    c.as_slice-olds.ensures c.as_slice-news.ensures c.as_slice.ensures c.in_ok-refusal.ensures c.in-None.is in
    IfOk-weaker c.move_over.result _ _ (λ r ends. subst (λ (o : Option Refusal). MovesEnd lost c.args.name.now c.args.body.now c.args.asked.now c.args.coming o s (said r) new) (sym is) ends) c.move_over.ensures.done

pub returns-in-None-clause-fine : goal.returns-in-None-clause-fine
returns-in-None-clause-fine g c = λ failed.
    refusal_is (schema_of c.args.app.now).tables c.as_slice-olds.result.now (schema_of c.args.coming).tables c.as_slice-news.result.now c.args.asked.now.moves c.as_slice.result.now c.in_ok-refusal.field-0 None
    c.as_slice-olds.ensures c.as_slice-news.ensures c.as_slice.ensures c.in_ok-refusal.ensures c.in-None.is
