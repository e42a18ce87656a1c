use Rattle.std.proofs.Common.{◌∙◌, ◌++◌, ◌∷◌, ◌+◌, [], ap, ap₂, sym}
use Rattle.row_imports.proofs.CellLists.{given_step}
use Rattle.row_imports.proofs.cells.with_given.Goals as goal

pub loop-cell-preserved : goal.loop-cell-preserved
loop-cell-preserved c =
    let l = c.loop-cell in
    record {
      number = ap (λ n. n + 1) l.invariant.number;
      all = c.in_ok-push.ensures.ok ∙ ap₂ (λ cells v. cells ++ v ∷ []) l.invariant.all c.in_ok-cell_with.ensures
          ∙ sym (given_step c.args.heading.now.columns c.args.line.now c.args.cells.now l.cell-index l.number c.cell-item.result c.loop-cell-test.true c.cell-item.is l.invariant.number);
    }
