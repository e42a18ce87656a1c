use Rattle.std.proofs.Common.{◌≡◌, drop}
use Rattle.fx_types.specs.Values.{field_list}
use Rattle.fx_types.specs.ValueView.{fields_view}
use Rattle.fx_value.specs.Coercion.{field_or_blank}
use Rattle.fx_value.proofs.widening.take_value.Given as goal

abbrev pub invariant-loop-other : goal.invariant-loop-other
invariant-loop-other l = record {
  whole : l.other-items ≡ l.fn.items.items;
  rest : field_or_blank l.name (field_list (fields_view (drop l.other-index l.fn.items.items))) ≡ field_or_blank l.name (field_list (fields_view l.fn.items.items));
}
