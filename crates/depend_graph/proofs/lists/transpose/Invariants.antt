use Rattle.std.proofs.Common.{◌≡◌, vec_len}
use Rattle.depend_graph.specs.Lists.{lists_of}
use Rattle.depend_graph.proofs.Adding.{AreTurnedBelow}
use Rattle.depend_graph.proofs.lists.transpose.Given as goal

abbrev pub invariant-loop-number : goal.invariant-loop-number
invariant-loop-number l = (vec_len l.lists ≡ l.count) × AreTurnedBelow l.number (lists_of l.readers) (lists_of l.lists.items)
