use Rattle.std.proofs.Common.{◌≡◌, length, map}
use Rattle.fx_typing.specs.Builds.{put_fields}
use Rattle.fx_typing.specs.TypedView.{typed}
use Rattle.fx_node_typing.specs.Fields.{field_view, put_onto}
use Rattle.fx_node_typing.proofs.records.put_fields.Given as goal

abbrev pub invariant-loop-part : goal.invariant-loop-part
invariant-loop-part l = record {
  onto : put_onto l.names.items (map typed l.parts.items) (map field_view l.fields.items)
      ≡ put_fields l.fn.names.items (map typed l.fn.parts.items);
  paired : length l.names.items ≡ length l.parts.items;
}

abbrev pub decreases-loop-part : goal.decreases-loop-part
decreases-loop-part l = length l.parts.items
