use Rattle.std.proofs.Common.{◌≡◌, ◌≤◌, All, map, take}
use Rattle.fx_infer.specs.Below.{tree_depth}
use Rattle.fx_infer.specs.CellView.{cell}
use Rattle.fx_infer.specs.declared.elaboration.Written.{Written}
use Rattle.app_loader.specs.Cells.{round_cell}
use Rattle.app_loader.proofs.writing.written_cells.Given as goal

abbrev pub invariant-loop-cell : goal.invariant-loop-cell
invariant-loop-cell l = record {
  cells : map cell l.all.items ≡ map round_cell (take l.cell-index l.cells);
  shallow : All (λ (w : Written). tree_depth w.expr ≤ 256) l.all.items;
}
