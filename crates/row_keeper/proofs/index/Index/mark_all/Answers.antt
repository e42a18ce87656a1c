use Rattle.row_keeper.proofs.MarkLemmas.{at_place}
use Rattle.row_keeper.proofs.index.Index.mark_all.Goals as goal

pub mark-requires : goal.mark-requires
mark-requires c = c.loop-entry.invariant.2 c.entry-item.result (c.requires c.entry-item.result (at_place c.args.entries.now c.loop-entry.entry-index c.entry-item.result c.loop-entry-test.true c.entry-item.is))
