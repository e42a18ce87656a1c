use Rattle.std.proofs.Common.{ℕ, ◌∷◌, Err, List, Ok, Result, map, ap, sym, ◌∙◌}
use Rattle.fx_types.specs.Types.{Shape, records}
use Rattle.std.proofs.lemmas.Result.{err_from_is_err_and}
use Rattle.fx_typing.specs.TypedView.{typed}
use Rattle.fx_core.specs.Term.{Term}
use Rattle.fx_call_typing.specs.Changes.{changing_view, patched}
use Rattle.fx_typing.specs.Deeds.{patch_to}
use Rattle.fx_core.specs.ColumnLists.{and_then}
use Rattle.fx_node_typing.proofs.Exits.{first_stops, as_same}
use Rattle.fx_call_typing.proofs.RowSteps.{patch_is, patching}
use Rattle.fx_call_typing.proofs.patching.patch_by.Goals as goal

pub returns-in_err-cores : goal.returns-in_err-cores
returns-in_err-cores c =
    let p = err_from_is_err_and c.from_residual.result c.from_residual.ensures.1 in
    let r = changing_view c.args.rows in
    let base = typed c.args.base in
    let changes = map typed c.args.changes.items in
    rw (p.1, p.2)
    (as_same typed (patch_to r (base ∷ changes)) (and_then (patched r base changes) (patching r)) (Err c.in_err-cores.field-0.0) (patch_is r base changes)
    (first_stops (λ (cs : List Term). cs) typed (patched r base changes) (patching r) c.in_err-cores.field-0.0 c.in_err-cores.ensures))

pub returns : goal.returns
returns c =
    let r = changing_view c.args.rows in
    let base = typed c.args.base in
    let changes = map typed c.args.changes.items in
    let whole : Term → Result (Term × Shape) ℕ = λ x. Ok (x, records r.1) in
    patch_is r base changes
    ∙ ap (λ (q : Result (List Term) ℕ). and_then q (patching r)) c.in_ok-cores.ensures
    ∙ ap whole (sym c.act.ensures)
