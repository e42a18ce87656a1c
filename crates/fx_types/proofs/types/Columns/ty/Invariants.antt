use Rattle.std.proofs.Common.{◌≡◌, drop}
use Rattle.fx_types.specs.Lookup.{item_named}
use Rattle.fx_types.specs.TypeView.{columns_view}
use Rattle.fx_types.proofs.types.Columns.ty.Given as goal

abbrev pub invariant-loop-other : goal.invariant-loop-other
invariant-loop-other l =
    item_named l.name (columns_view (drop l.other-index l.other-items)) ≡ item_named l.name (columns_view l.other-items)
