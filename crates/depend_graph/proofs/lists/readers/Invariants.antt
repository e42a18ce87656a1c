use Rattle.std.proofs.Common.{◌≡◌, take, vec_len}
use Rattle.depend_graph.specs.Lists.{lists_of, AreReaders}
use Rattle.depend_graph.proofs.lists.readers.Given as goal

abbrev pub invariant-loop-reader : goal.invariant-loop-reader
invariant-loop-reader l = (vec_len l.lists ≡ l.count) × AreReaders (take l.reader-index l.edges) (lists_of l.lists.items)
