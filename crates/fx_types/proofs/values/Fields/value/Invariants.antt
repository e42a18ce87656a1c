use Rattle.std.proofs.Common.{◌≡◌, drop}
use Rattle.fx_types.specs.Lookup.{item_named}
use Rattle.fx_types.specs.ValueView.{fields_view}
use Rattle.fx_types.proofs.values.Fields.value.Given as goal

abbrev pub invariant-loop-other : goal.invariant-loop-other
invariant-loop-other l =
    item_named l.name (fields_view (drop l.other-index l.other-items)) ≡ item_named l.name (fields_view l.other-items)
