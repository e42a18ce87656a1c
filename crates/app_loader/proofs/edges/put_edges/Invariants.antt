use Rattle.std.proofs.Common.{◌≡◌, ◌++◌, drop}
use Rattle.app_cells.specs.Leaning.{edges_by}
use Rattle.app_loader.proofs.edges.put_edges.Given as goal

abbrev pub invariant-loop-source : goal.invariant-loop-source
invariant-loop-source l = l.edges.items ++ edges_by l.names l.number (drop l.source-index l.reads) ≡ l.initial.edges.items ++ edges_by l.names l.number l.reads
