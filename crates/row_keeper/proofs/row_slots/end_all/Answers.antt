use Rattle.std.proofs.Common.{◌==◌, ap, cond, get_or, refl, sym, take, ◌∙◌}
use Rattle.row_keeper.specs.Slots.{slot_ended, has_number, slot_at}
use Rattle.row_keeper.proofs.EndLemmas.{any_more, at_next}
use Rattle.row_keeper.proofs.SlotLemmas.{end_twice}
use Rattle.row_keeper.proofs.row_slots.end_all.Goals as goal

pub loop-id-preserved : goal.loop-id-preserved
loop-id-preserved c i =
    let touched = c.args.touched.now in
    let id = get_or touched c.loop-id.id-index 0 in
    let was = slot_at c.args.rows.now.entries i in
    at_next (has_number (take c.loop-id.id-index touched) i) (id == i) (slot_ended c.args.with_changes) (end_twice c.args.with_changes) was (slot_at c.loop-id.rows.entries i) (slot_at c.end_at.new.rows.entries i)
    (c.loop-id.invariant i) (c.end_at.ensures i)
    ∙ ap (λ b. cond b (slot_ended c.args.with_changes was) was) (sym (any_more (λ n. n == i) touched c.loop-id.id-index id 0 c.loop-id-test.true refl))
