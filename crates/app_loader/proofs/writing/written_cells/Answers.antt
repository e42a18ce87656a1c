use Rattle.std.proofs.Common.{◌≡◌, ◌≤◌, ◌+◌, All, List, map, subst, sym, take}
use Rattle.std.proofs.lemmas.List.Elements.{All-push}
use Rattle.fx_infer.specs.Below.{tree_depth}
use Rattle.fx_infer.specs.CellView.{cell}
use Rattle.fx_infer.specs.declared.elaboration.Written.{Written}
use Rattle.app_loader.specs.Cells.{round_cell}
use Rattle.app_loader.proofs.Writes.{cells_more, shallow_at, shallow_written}
use Rattle.app_loader.proofs.writing.written_cells.Goals as goal

pub loop-cell-preserved : goal.loop-cell-preserved
loop-cell-preserved c =
    let cs = c.args.cells.now in
    let i = c.loop-cell.cell-index in
    let n = c.cell-item.result in
    let w = c.in_ok-written_cell.field-0 in
    let old = c.loop-cell.all.items in
    let shallow = shallow_written n w c.in_ok-written_cell.ensures (shallow_at cs i n c.requires c.loop-cell-test.true c.cell-item.is) in
    record {
      cells = subst (λ (ws : List Written). map cell ws ≡ map round_cell (take (i + 1) cs)) (sym c.in_ok-push.ensures.items)
          (cells_more cs i n old w c.loop-cell-test.true c.cell-item.is c.loop-cell.invariant.cells c.in_ok-written_cell.ensures);
      shallow = subst (All (λ (w : Written). tree_depth w.expr ≤ 256)) (sym c.in_ok-push.ensures.items) (All-push (λ (w : Written). tree_depth w.expr ≤ 256) old w c.loop-cell.invariant.shallow shallow);
    }
