use Rattle.std.proofs.Common.{None, sym, ◌==◌}
use Rattle.row_keeper.specs.Slots.{slot_at, while_row}
use Rattle.row_keeper.proofs.EndLemmas.{at_none, at_one}
use Rattle.row_keeper.proofs.SlotLemmas.{is_number, row_stays, told_at, void_out}
use Rattle.row_keeper.proofs.row_slots.drop_slot.Goals as goal

pub returns-then-is_void : goal.returns-then-is_void
returns-then-is_void c i =
    let rows = c.args.rows.now.entries in
    let id = c.args.id in
    at_one (slot_at rows) (slot_at c.remove.new.self.entries) (λ n. id == n) id (is_number id) while_row None (void_out (slot_at rows id) (sym c.if-is_void.ensures)) i
    (told_at id i None (slot_at rows i) _ (c.remove.ensures.updates.0 i))

pub returns-else-is_void : goal.returns-else-is_void
returns-else-is_void c i =
    at_none (slot_at c.args.rows.now.entries) (λ n. c.args.id == n) c.args.id (is_number c.args.id) while_row (row_stays (slot_at c.args.rows.now.entries c.args.id) (sym c.if-is_void.ensures)) i
