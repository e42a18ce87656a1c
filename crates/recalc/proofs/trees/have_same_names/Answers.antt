use Rattle.std.proofs.Common.{ap, arith, length}
use Rattle.recalc.proofs.Parts.{names_long}
use Rattle.recalc.proofs.trees.have_same_names.Goals as goal

pub returns-then-xs-ys : goal.returns-then-xs-ys
returns-then-xs-ys c = (
  λ t. absurd cc,
  λ e.
      let long = names_long c.args.fields.now c.args.others.now e in
      let xs = ap length c.as_slice-xs.ensures in
      let ys = ap length c.as_slice-ys.ensures in
      absurd (omega (arith, long, xs, ys)),
)
