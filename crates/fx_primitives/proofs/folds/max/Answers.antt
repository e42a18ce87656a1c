use Rattle.std.proofs.Common.{List, ℤ, arith, subst, sym}
use Rattle.fx_primitives.specs.Folds.{IsGreatest}
use Rattle.fx_primitives.proofs.FoldLemmas.{present_more}
use Rattle.fx_primitives.proofs.folds.max.Goals as goal

pub loop-number-preserved : goal.loop-number-preserved
loop-number-preserved c =
    let more = present_more c.args.numbers.now c.loop-number.number-index c.number-item.result (omega arith) c.number-item.is in
    subst (λ (zs : List ℤ). IsGreatest zs c.greater-greatest.result) (sym more) (c.greater-greatest.ensures _ c.loop-number.invariant)
