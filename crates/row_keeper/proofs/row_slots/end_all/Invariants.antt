use Rattle.std.proofs.Common.{◌≡◌, ℕ, cond, take}
use Rattle.row_keeper.specs.Slots.{slot_ended, has_number, slot_at}
use Rattle.row_keeper.proofs.row_slots.end_all.Given as goal

abbrev pub invariant-loop-id : goal.invariant-loop-id
invariant-loop-id l = (i : ℕ) → slot_at l.rows.entries i ≡ cond (has_number (take l.id-index l.touched) i) (slot_ended l.with_changes (slot_at l.initial.rows.entries i)) (slot_at l.initial.rows.entries i)
