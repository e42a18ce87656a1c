use Rattle.std.proofs.Common.{arith, refl}
use Rattle.fx_core.specs.declared.sources.Source.{Source}
use Rattle.recalc.proofs.Among.{among_at, found_there, one_more}
use Rattle.recalc.specs.Carrying.{IsOldSource}
use Rattle.recalc.proofs.trees.is_old_read.Goals as goal

pub returns-then-is_old_source : goal.returns-then-is_old_source
returns-then-is_old_source c = (
  λ t. found_there (λ (r : Source). IsOldSource c.args.old.now c.args.new.now c.args.source r) c.args.were.now c.loop-was.was-index _ c.loop-was-test.true (c.is_old_source.ensures.0 c.if-is_old_source.true),
  λ h. refl,
)

pub loop-was-preserved : goal.loop-was-preserved
loop-was-preserved c =
    one_more (λ (r : Source). IsOldSource c.args.old.now c.args.new.now c.args.source r → ⊥) c.args.were.now c.loop-was.was-index _ c.loop-was-test.true c.loop-was.invariant (λ h. let yes = c.is_old_source.ensures.1 h in absurd cc)

pub returns : goal.returns
returns c = (
  λ t. absurd cc,
  λ h.
      let at = among_at h.0 c.args.were.now h.1 in
      let low = at.1 in
      let end = c.loop-was-test.false in
      absurd (c.loop-was.invariant at.0 h.0 (omega (arith, low, end)) at.2 h.2),
)
