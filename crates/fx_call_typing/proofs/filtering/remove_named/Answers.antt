use Rattle.std.proofs.Common.{map}
use Rattle.std.proofs.lemmas.Result.{err_from_is_err_and}
use Rattle.fx_typing.specs.Targets.{rows_named}
use Rattle.fx_typing.specs.TypedView.{typed}
use Rattle.fx_resolve.specs.PartView.{judged_part}
use Rattle.fx_call_typing.specs.Changes.{changing_view, found_view, removed_from}
use Rattle.fx_call_typing.proofs.RowSteps.{rows_stop, rows_go}
use Rattle.fx_call_typing.proofs.filtering.remove_named.Goals as goal

pub returns-in_err-rows : goal.returns-in_err-rows
returns-in_err-rows c =
    let p = err_from_is_err_and c.from_residual.result c.from_residual.ensures.1 in
    let qs = map judged_part c.args.conditions.items in
    rw (p.1, p.2)
    (rows_stop found_view typed (rows_named c.args.names.now c.args.name.now) (λ r. removed_from r c.args.alias qs) c.in_err-rows.field-0.0 c.in_err-rows.ensures)

pub returns : goal.returns
returns c =
    let qs = map judged_part c.args.conditions.items in
    rows_go typed (rows_named c.args.names.now c.args.name.now) (found_view (c.in_ok-rows.rows, c.in_ok-rows.is_blank)) (λ r. removed_from r c.args.alias qs) c.settle.result c.in_ok-rows.ensures (c.settle.ensures (removed_from (changing_view c.in_ok-rows.rows) c.args.alias qs) c.remove_from.ensures)
