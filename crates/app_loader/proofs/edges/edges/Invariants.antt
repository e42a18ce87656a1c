use Rattle.std.proofs.Common.{◌≡◌, ◌++◌, drop}
use Rattle.app_cells.specs.Leaning.{edges_from, edges_of}
use Rattle.app_loader.proofs.edges.edges.Given as goal

abbrev pub invariant-loop-info : goal.invariant-loop-info
invariant-loop-info l = record {
  number : l.number ≡ l.info-index;
  edges : l.edges.items ++ edges_from l.names l.info-index (drop l.info-index l.infos) ≡ edges_of l.names l.infos;
}
