use Rattle.std.proofs.Common.{map, Vec, Global}
use Rattle.std.proofs.lemmas.Result.{err_from_is_err_and}
use Rattle.fx_types.specs.Types.{column_list}
use Rattle.fx_typing.specs.Deeds.{rows_named_by}
use Rattle.fx_typing.specs.declared.typed.Typed.{Typed}
use Rattle.fx_typing.specs.TypedView.{typed}
use Rattle.fx_node_typing.proofs.Exits.{first_stops}
use Rattle.fx_call_typing.proofs.patching.remove_to.Goals as goal

pub returns-in_err-found : goal.returns-in_err-found
returns-in_err-found c =
    let p = err_from_is_err_and c.from_residual.result c.from_residual.ensures.1 in
    rw (p.1, p.2)
    (first_stops (λ (x : Vec Typed Global). map typed x.items) typed
    (rows_named_by c.args.rows.now.target (column_list c.args.rows.now.columns) (map typed c.args.named.items)) _ c.in_err-found.field-0.0 c.in_err-found.ensures)
