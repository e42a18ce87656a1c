use Rattle.session_requests.proofs.CellsBehind.{AreAlone, HasBehind}
use Rattle.session_requests.proofs.refresh_inputs.cells_behind.Given as goal

abbrev pub invariant-loop-source : goal.invariant-loop-source
invariant-loop-source l = record {
  had : HasBehind l.app l.reads l.source-index l.cells.items;
  alone : AreAlone l.app l.cells.items;
}
