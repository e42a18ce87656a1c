use Rattle.std.proofs.Common.{ap, map, sym, ◌∙◌}
use Rattle.fx_types.specs.ValueView.{view}
use Rattle.fx_core.specs.TermView.{core_branch}
use Rattle.fx_plan.proofs.SettledPlaces.{search_there}
use Rattle.fx_plan.proofs.settling.settled_search.Goals as goal

pub returns-in_ok-new-in-Over : goal.returns-in_ok-new-in-Over
returns-in_ok-new-in-Over c =
    search_there c.args.depth (map view c.args.values.now) c.in-Over.fun c.args.search.now c.in-Over.table.value c.deref.result.now c.in_ok-table-in-Over.table c.in_ok-new-in-Over.field-0.value
    c.in-Over.parts c.as_slice.result.now c.in_ok-parts-in-Over.parts _
    (sym (ap core_branch c.in-Over.is) ∙ c.search.view_is) c.deref.ensures c.as_slice.ensures c.in_ok-table-in-Over.ensures c.in_ok-new-in-Over.ensures.ok c.in_ok-parts-in-Over.ensures
