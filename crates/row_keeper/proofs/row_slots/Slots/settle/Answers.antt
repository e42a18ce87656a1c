use Rattle.std.proofs.Common.{◌≡◌, ℕ, cond, subst, true}
use Rattle.row_keeper.specs.Slots.{slot_ended, has_number, slot_at}
use Rattle.row_keeper.proofs.SlotLemmas.{done}
use Rattle.row_keeper.proofs.row_slots.Slots.settle.Goals as goal

pub returns-clause-now : goal.returns-clause-now
returns-clause-now c i =
    (done c.args.self.now.touched.items c.args.self.now.by_id.entries c.end_all.new.rows.entries c.args.self.now.kept
    (subst (λ t. (j : ℕ) → slot_at c.end_all.new.rows.entries j ≡ cond (has_number t j) (slot_ended true (slot_at c.args.self.now.by_id.entries j)) (slot_at c.args.self.now.by_id.entries j)) c.deref.ensures.value c.end_all.ensures.slots) i).0

pub returns-clause-then : goal.returns-clause-then
returns-clause-then c i =
    (done c.args.self.now.touched.items c.args.self.now.by_id.entries c.end_all.new.rows.entries c.args.self.now.kept
    (subst (λ t. (j : ℕ) → slot_at c.end_all.new.rows.entries j ≡ cond (has_number t j) (slot_ended true (slot_at c.args.self.now.by_id.entries j)) (slot_at c.args.self.now.by_id.entries j)) c.deref.ensures.value c.end_all.ensures.slots) i).1
