use Rattle.std.proofs.Common.{◌≡◌, ◌++◌}
use Rattle.fx_typing.specs.Deeds.{given_sources, given_terms}
use Rattle.fx_node_typing.proofs.given.give_context.Given as goal

abbrev pub invariant-loop-source : goal.invariant-loop-source
invariant-loop-source l = record {
  sources : l.sources ++ given_sources l.source-iterator.rest.items ≡ given_sources l.fn.given.items;
  cores : l.cores ++ given_terms l.source-iterator.rest.items ≡ given_terms l.fn.given.items;
}
