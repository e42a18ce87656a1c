use Rattle.std.proofs.Common.{◌∙◌}
use Rattle.row_keeper.specs.Entries.{HasEntryRoom}
use Rattle.row_keeper.proofs.MarkLemmas.{one_more}
use Rattle.row_keeper.proofs.index.Index.make_rooms.Goals as goal

pub loop-entry-preserved : goal.loop-entry-preserved
loop-entry-preserved c = (
  λ q. c.make_room.ensures.now q ∙ c.loop-entry.invariant.0 q,
  λ q. c.make_room.ensures.then q ∙ c.loop-entry.invariant.1 q,
  λ q h. c.make_room.ensures.more q (c.loop-entry.invariant.2 q h),
  one_more c.args.entries.now c.loop-entry.entry-index c.entry-item.result (HasEntryRoom c.make_room.new.self.touched.items c.make_room.new.self.entries.entries) c.loop-entry-test.true c.entry-item.is
      (λ q h. c.make_room.ensures.more q (c.loop-entry.invariant.3 q h)) c.in_ok-make_room.ensures.room,
)
