use Rattle.std.proofs.Common.{◌≡◌, drop}
use Rattle.fx_types.specs.Lookup.{item_named}
use Rattle.fx_types.specs.ValueView.{fields_view}
use Rattle.fx_tables.proofs.columns.place_under.Given as goal

abbrev pub invariant-loop-place : goal.invariant-loop-place
invariant-loop-place l =
    item_named l.name (fields_view (drop l.place l.items)) ≡ item_named l.name (fields_view l.items)
