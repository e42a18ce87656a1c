use Rattle.std.proofs.Common.{◌∙◌, sym}
use Rattle.recalc.proofs.Finding.{old_cell_of}
use Rattle.recalc.proofs.carrying.old_cell.Goals as goal

pub returns-then-is_left-clause-some : goal.returns-then-is_left-clause-some
returns-then-is_left-clause-some c =
    old_cell_of c.args.old.now c.args.new.now c.args.cell c.in_ok-was.was' c.in_ok-before.before.now c.in_ok-after.after.now (sym (c.requires c.args.cell) ∙ sym c.place_at.ensures ∙ c.in_ok-was.was)
    c.in_ok-before.ensures c.in_ok-after.ensures (c.is_left.ensures.0 c.if-is_left.true)
