use Rattle.std.proofs.Common.{map}
use Rattle.std.proofs.lemmas.Result.{err_from_is_err_and}
use Rattle.fx_typing.specs.Deeds.{filter_of}
use Rattle.fx_typing.specs.TypedView.{typed}
use Rattle.fx_resolve.specs.PartView.{judged_part}
use Rattle.fx_call_typing.specs.Changes.{changing_view}
use Rattle.fx_node_typing.proofs.Exits.{first_stops}
use Rattle.fx_call_typing.proofs.filtering.remove_from.Goals as goal

pub returns-in_err-filtered : goal.returns-in_err-filtered
returns-in_err-filtered c =
    let p = err_from_is_err_and c.from_residual.result c.from_residual.ensures.1 in
    rw (p.1, p.2)
    (first_stops typed typed (filter_of (changing_view c.args.rows.now) c.args.alias (map judged_part c.args.conditions.items)) _ c.in_err-filtered.field-0.0 c.in_err-filtered.ensures)
