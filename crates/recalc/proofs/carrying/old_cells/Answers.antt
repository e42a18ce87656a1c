use Rattle.std.proofs.Common.{◌∙◌, ◌+◌, ℕ, List, [], ◌∷◌, Option, ap, length, subst, sym}
use Rattle.std.proofs.lemmas.List.{length-append}
use Rattle.recalc.proofs.Finding.{AreOldSoFar, none_so_far, one_so_far}
use Rattle.recalc.proofs.carrying.old_cells.Goals as goal

pub loop-cell-init : goal.loop-cell-init
loop-cell-init c = record {
  cells = subst (λ (l : List (Option ℕ)). AreOldSoFar c.args.old.now c.args.new.now l) (sym c.in_ok-cells.ensures.items) (none_so_far c.args.old.now c.args.new.now);
  long = ap length c.in_ok-cells.ensures.items;
}

pub loop-cell-preserved : goal.loop-cell-preserved
loop-cell-preserved c =
    let items = c.in_ok-push.ensures.items in
    record {
      cells = subst (λ (l : List (Option ℕ)). AreOldSoFar c.args.old.now c.args.new.now l) (sym items)
          (one_so_far c.args.old.now c.args.new.now c.loop-cell.cells.items c.loop-cell.cell c.old_cell.result c.loop-cell.invariant.long c.old_cell.ensures.some c.old_cell.ensures.none c.loop-cell.invariant.cells);
      long = ap length items ∙ length-append c.loop-cell.cells.items (c.old_cell.result ∷ []) ∙ ap (λ n. n + 1) c.loop-cell.invariant.long;
    }
