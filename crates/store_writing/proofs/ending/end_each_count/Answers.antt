use Rattle.std.proofs.Common.{arith}
use Rattle.std.proofs.lemmas.List.{get_or_default}
use Rattle.std.proofs.lemmas.List.Edits.{map_over_more}
use Rattle.store_model.specs.Laws.{count_at_end}
use Rattle.store_writing.proofs.ending.end_each_count.Goals as goal

pub loop-count-preserved : goal.loop-count-preserved
loop-count-preserved c =
    rw c.count_ended.ensures (map_over_more (count_at_end c.args.with_changes) c.args.counts.now c.loop-count.counts c.loop-count.count-index _ (omega (arith, c.loop-count-test.true)) c.loop-count.invariant
    (get_or_default c.loop-count.counts c.loop-count.count-index _ _ (omega (arith, c.loop-count-test.true, c.loop-count.auto.counts))))
