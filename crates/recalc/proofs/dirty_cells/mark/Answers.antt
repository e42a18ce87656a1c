use Rattle.recalc.proofs.Marking.{mark_only, mark_still}
use Rattle.recalc.proofs.dirty_cells.mark.Goals as goal

pub returns-clause-still : goal.returns-clause-still
returns-clause-still c = λ k h. mark_still c.args.marks.now c.args.cell k h

pub returns-clause-only : goal.returns-clause-only
returns-clause-only c = λ k h. mark_only c.args.marks.now c.args.cell k h
