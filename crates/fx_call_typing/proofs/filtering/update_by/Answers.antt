use Rattle.std.proofs.Common.{◌≡◌, ◌∷◌, [], Err, List, Ok, subst}
use Rattle.std.proofs.lemmas.Result.{err_from_is_err_and}
use Rattle.fx_types.specs.Types.{Shape}
use Rattle.fx_core.specs.declared.deeds.Deed.TheVariants as deed
use Rattle.fx_typing.specs.Deeds.{filter_of, change_of, done_by}
use Rattle.fx_typing.specs.Parts.{JudgedPart}
use Rattle.fx_typing.specs.Answers.{IsAnswerOf}
use Rattle.fx_typing.specs.TypedView.{typed}
use Rattle.fx_resolve.specs.PartView.{judged_part}
use Rattle.fx_core.specs.Term.{Term}
use Rattle.fx_core.specs.ColumnLists.{and_then}
use Rattle.fx_call_typing.specs.Changes.{changing_view}
use Rattle.fx_node_typing.proofs.Exits.{first_stops, goes_on}
use Rattle.fx_call_typing.proofs.filtering.update_by.Goals as goal

pub returns-in_err-filtered : goal.returns-in_err-filtered
returns-in_err-filtered c =
    let p = err_from_is_err_and c.from_residual-in_err-filtered.result c.from_residual-in_err-filtered.ensures.1 in
    let r = changing_view c.args.rows.now in
    let e = c.in_err-filtered.field-0.0 in
    rw (p.1, p.2)
    (first_stops typed typed (filter_of r c.args.alias (judged_part c.args.condition ∷ [])) _ e
    (subst (λ (qs : List JudgedPart). IsAnswerOf typed (filter_of r c.args.alias qs) (Err e)) c.in_ok-conditions.ensures c.in_err-filtered.ensures))

pub returns-in_err-change : goal.returns-in_err-change
returns-in_err-change c =
    let p = err_from_is_err_and c.from_residual-in_err-change.result c.from_residual-in_err-change.ensures.1 in
    let r = changing_view c.args.rows.now in
    let x = typed c.args.change in
    let e = c.in_err-change.field-0.0 in
    rw (p.1, p.2)
    (goes_on typed (filter_of r c.args.alias (judged_part c.args.condition ∷ [])) (typed c.in_ok-filtered.filtered)
    (λ (f : Term × Shape). and_then (change_of r.0 r.1 x) (λ y. Ok (done_by (deed.UpdateIf r.0) (f.0 ∷ y.0 ∷ [])))) (Err e)
    (subst (λ (qs : List JudgedPart). filter_of r c.args.alias qs ≡ Ok (typed c.in_ok-filtered.filtered)) c.in_ok-conditions.ensures c.in_ok-filtered.ensures)
    (first_stops typed typed (change_of r.0 r.1 x) _ e c.in_err-change.ensures))
