use Rattle.std.proofs.Common.{◌≡◌, ◌++◌, List, length}
use Rattle.app_cells.specs.declared.app.CellInfo.{CellInfo}
use Rattle.app_loader.specs.Admitted.{AreTyped}
use Rattle.app_loader.specs.Infos.{AreElaborated}
use Rattle.app_loader.proofs.infos.infos_of.Given as goal

-- what is done, before anything that what is left is, is the whole
abbrev pub invariant-loop-cell : goal.invariant-loop-cell
invariant-loop-cell l = record {
  typed : AreTyped l.names l.cell-iterator.a.rest.items l.cell-iterator.b.rest.items;
  done : (more : List CellInfo) → AreElaborated l.names l.limit l.cell-iterator.a.rest.items more → AreElaborated l.names l.limit l.fn.cells.items (l.all ++ more);
  each : length l.cell-iterator.b.rest.items ≡ length l.cell-iterator.a.rest.items;
}
