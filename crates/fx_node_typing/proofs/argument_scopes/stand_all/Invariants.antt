use Rattle.std.proofs.Common.{◌≡◌, ◌+◌, length, map}
use Rattle.fx_types.specs.TypeView.{shape}
use Rattle.fx_typing.specs.Local.{stand_all}
use Rattle.fx_typing.specs.TypedView.{typed, piece_view}
use Rattle.fx_node_typing.proofs.StandSteps.{stand_from}
use Rattle.fx_node_typing.proofs.argument_scopes.stand_all.Given as goal

abbrev pub invariant-loop-part : goal.invariant-loop-part
invariant-loop-part l = record {
  count : l.count ≡ length l.done.items + length l.part-iterator.rest.items;
  value :
      stand_from l.row l.count (shape l.common) (map typed l.done.items) (map piece_view l.part-iterator.rest.items)
      ≡ stand_all l.row (shape l.common) (map piece_view l.fn.parts.items);
}
