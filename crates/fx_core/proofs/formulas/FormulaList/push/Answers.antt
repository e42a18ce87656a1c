use Rattle.std.proofs.Common.{◌≡◌}
use Rattle.std.proofs.Common.{arith}
use Rattle.std.proofs.lemmas.Grind.{common_steps}
use Rattle.fx_core.proofs.Placed.{placed_push}
use Rattle.fx_core.proofs.formulas.FormulaList.push.Goals as goal

pub invariant_of-self-else-is_err : goal.invariant_of-self-else-is_err
invariant_of-self-else-is_err c =
    rw c.in_ok-push.ensures.items (placed_push c.self.inside.places c.note.new.places c.self.inside.items.items c.args.formula c.self.invariant (grind (arith, common_steps)))
