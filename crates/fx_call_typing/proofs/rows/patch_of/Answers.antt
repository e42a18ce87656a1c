use Rattle.std.proofs.Common.{Err, List, map, Vec, Global}
use Rattle.std.proofs.lemmas.Result.{err_from_is_err_and}
use Rattle.fx_types.specs.Types.{Shape}
use Rattle.fx_typing.specs.Deeds.{by_rows, patch_to}
use Rattle.fx_typing.specs.Parts.{values}
use Rattle.fx_typing.specs.Targets.{rows_named}
use Rattle.fx_typing.specs.declared.typed.Typed.{Typed}
use Rattle.fx_typing.specs.TypedView.{typed}
use Rattle.fx_resolve.specs.PartView.{judged_part}
use Rattle.fx_core.specs.Term.{Term}
use Rattle.fx_call_typing.specs.Changes.{changing_view, found_view}
use Rattle.fx_node_typing.proofs.Exits.{first_stops, goes_on}
use Rattle.fx_call_typing.proofs.RowSteps.{rows_stop, rows_go}
use Rattle.fx_call_typing.proofs.rows.patch_of.Goals as goal

pub returns-in_err-values : goal.returns-in_err-values
returns-in_err-values c =
    let p = err_from_is_err_and c.from_residual.result c.from_residual.ensures.1 in
    rw (p.1, p.2)
    (first_stops (λ (x : Vec Typed Global). map typed x.items) typed (values (map judged_part c.args.parts.items)) _ c.in_err-values.field-0.0 c.in_err-values.ensures)

pub returns-in_err-rows : goal.returns-in_err-rows
returns-in_err-rows c =
    let p = err_from_is_err_and c.from_residual-in_err-rows.result c.from_residual-in_err-rows.ensures.1 in
    let o = rows_named c.args.names.now c.args.name.now in
    let xs = map typed c.in_ok-values.values.items in
    rw (p.1, p.2)
    (goes_on typed (values (map judged_part c.args.parts.items)) xs (λ (xs : List (Term × Shape)). by_rows o (λ r. patch_to r xs)) (Err c.in_err-rows.field-0.0) c.in_ok-values.ensures
    (rows_stop found_view typed o (λ r. patch_to r xs) c.in_err-rows.field-0.0 c.in_err-rows.ensures))

pub returns : goal.returns
returns c =
    let o = rows_named c.args.names.now c.args.name.now in
    let xs = map typed c.in_ok-values.values.items in
    goes_on typed (values (map judged_part c.args.parts.items)) xs (λ (xs : List (Term × Shape)). by_rows o (λ r. patch_to r xs)) c.settle.result c.in_ok-values.ensures
    (rows_go typed o (found_view (c.in_ok-rows.rows, c.in_ok-rows.is_blank)) (λ r. patch_to r xs) c.settle.result c.in_ok-rows.ensures (c.settle.ensures (patch_to (changing_view c.in_ok-rows.rows) xs) c.patch_to.ensures))
