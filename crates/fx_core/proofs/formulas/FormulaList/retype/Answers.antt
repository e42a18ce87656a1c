use Rattle.std.proofs.Common.{arith}
use Rattle.std.proofs.lemmas.Grind.{common_steps}
use Rattle.fx_core.proofs.Placed.{placed_retyped}
use Rattle.fx_core.proofs.formulas.FormulaList.retype.Goals as goal

pub invariant_of-result : goal.invariant_of-result
invariant_of-result c =
    rw c.in_ok-with_types.ensures (placed_retyped c.self.inside.places c.self.inside.items.items c.args.types.items (grind (arith, common_steps)) c.self.invariant)
