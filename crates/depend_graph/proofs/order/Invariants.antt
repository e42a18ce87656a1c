use Rattle.std.proofs.Common.{◌≡◌, [], vec_len}
use Rattle.depend_graph.specs.Lists.{lists_of}
use Rattle.depend_graph.specs.Search.{IsSearchState}
use Rattle.depend_graph.proofs.Ordered.{SeenBelow}
use Rattle.depend_graph.proofs.order.Given as goal

abbrev pub invariant-loop-number : goal.invariant-loop-number
invariant-loop-number l = record {
  len : vec_len l.search.states ≡ l.count;
  search : IsSearchState (lists_of l.reads.items) l.search.states.items l.search.path.items l.search.order.items;
  path : l.search.path.items ≡ [];
  seen : SeenBelow l.number l.search.states.items;
}
