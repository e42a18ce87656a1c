use Rattle.std.proofs.Common.{◌≡◌, ◌++◌, List, length, map}
use Rattle.fx_types.specs.TypeView.{shape}
use Rattle.fx_typing.specs.Rounds.{AllSame}
use Rattle.fx_infer.proofs.typed_names.retype_all.Given as goal

-- what is done, before anything that is the same as what is left, is the same as the whole
abbrev pub invariant-loop-thing : goal.invariant-loop-thing
invariant-loop-thing g l = record {
  same : (more : List g.row.T.Denot) → AllSame g.T.TypedName.IsSame l.thing-iterator.a.rest.items more → AllSame g.T.TypedName.IsSame l.fn.things (l.all ++ more);
  types : map g.T.TypedName.type_of l.all ++ map shape l.thing-iterator.b.rest.items ≡ map shape l.fn.types.items;
  each : length l.thing-iterator.b.rest.items ≡ length l.thing-iterator.a.rest.items;
}
