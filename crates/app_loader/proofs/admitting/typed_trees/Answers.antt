use Rattle.std.proofs.Common.{ℕ, ap, nat_eq, sym, ◌∙◌}
use Rattle.app_loader.proofs.BreakLists.{are_refused, step_more}
use Rattle.app_loader.proofs.admitting.typed_trees.Goals as goal

pub loop-cell-preserved : goal.loop-cell-preserved
loop-cell-preserved c =
    step_more c.args.names.now c.args.cells.now c.loop-cell.cell-index c.cell-item.result c.loop-cell.trees.items c.put.new.trees.items c.loop-cell.breaks.items c.put.new.breaks.items c.in_ok-one.one
    c.loop-cell-test.true c.cell-item.is c.loop-cell.invariant c.in_ok-one.ensures c.in_ok-put.ensures

pub returns-else-is_empty-clause-refused : goal.returns-else-is_empty-clause-refused
returns-else-is_empty-clause-refused c =
    are_refused c.args.names.now c.args.cells.now c.loop-cell.cell-index c.loop-cell.trees.items c.loop-cell.breaks.items c.loop-cell.invariant c.loop-cell-test.false
    (ap (λ (k : ℕ). nat_eq k 0) (sym c.loop-cell.breaks.ok.0) ∙ sym c.is_empty.ensures ∙ c.if-is_empty.false)
