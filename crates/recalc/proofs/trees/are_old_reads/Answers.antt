use Rattle.std.proofs.Common.{arith, get_or, refl}
use Rattle.std.proofs.lemmas.Option.{slice_get-get_or}
use Rattle.fx_core.specs.Reads.{IsAmong}
use Rattle.fx_core.specs.declared.sources.Source.{Source}
use Rattle.recalc.proofs.Among.{among_at, at_among, one_more}
use Rattle.recalc.specs.Carrying.{IsOldSource}
use Rattle.recalc.proofs.trees.are_old_reads.Goals as goal

pub returns-then-not-is_old_read : goal.returns-then-not-is_old_read
returns-then-not-is_old_read c = (
  λ t. absurd cc,
  λ h.
      let low = c.loop-source-test.true in
      let at = at_among (get_or c.args.sources.now c.loop-source.source-index _) c.args.sources.now c.loop-source.source-index (slice_get-get_or c.args.sources.now c.loop-source.source-index _ low) in
      let yes = c.is_old_read.ensures.1 (h _ at) in
      absurd cc,
)

pub loop-source-preserved : goal.loop-source-preserved
loop-source-preserved c =
    one_more (λ (x : Source). (r : Source) × IsAmong r c.args.were.now × IsOldSource c.args.old.now c.args.new.now x r) c.args.sources.now c.loop-source.source-index _ c.loop-source-test.true c.loop-source.invariant (c.is_old_read.ensures.0 c.if-not-is_old_read.false)

pub returns : goal.returns
returns c = (
  λ t x among.
      let at = among_at x c.args.sources.now among in
      let low = at.1 in
      let end = c.loop-source-test.false in
      c.loop-source.invariant at.0 x (omega (arith, low, end)) at.2,
  λ h. refl,
)
