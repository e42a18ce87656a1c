use Rattle.std.proofs.Common.{◌≡◌}
use Rattle.fx_types.specs.Rising.{AreNamesRising}
use Rattle.fx_types.specs.ValueView.{fields_view}
use Rattle.fx_tables.specs.Groups.{IsApart, with_fields}
use Rattle.fx_group.proofs.ungrouping.joined.Given as goal

abbrev pub invariant-loop-name : goal.invariant-loop-name
invariant-loop-name l = record {
  value : with_fields (fields_view l.name-iterator.rest.items) l.joined ≡ with_fields l.fn.more l.fn.row;
  rises : AreNamesRising (fields_view l.name-iterator.rest.items);
  free : IsApart l.joined (fields_view l.name-iterator.rest.items);
}
