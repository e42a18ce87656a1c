use Rattle.std.proofs.Common.{◌==◌, ap, cond, ◌∙◌}
use Rattle.std.specs.Option.{option_map}
use Rattle.row_keeper.specs.Slots.{slot_at_end, slot_at, while_row}
use Rattle.row_keeper.proofs.EndLemmas.{at_both}
use Rattle.row_keeper.proofs.SlotLemmas.{two_steps}
use Rattle.row_keeper.proofs.row_slots.end_at.Goals as goal

pub returns : goal.returns
returns c i =
    at_both (c.args.id == i) (option_map (slot_at_end c.args.with_changes)) while_row (slot_at c.args.rows.now.entries i) (slot_at c.end_slot.new.rows.entries i) (slot_at c.drop_slot.new.rows.entries i) (c.end_slot.ensures i) (c.drop_slot.ensures i)
    ∙ ap (λ o. cond (c.args.id == i) o (slot_at c.args.rows.now.entries i)) (two_steps c.args.with_changes (slot_at c.args.rows.now.entries i))
