use Rattle.std.proofs.Common.{Some, ap, sym, ◌∙◌, ◌==◌}
use Rattle.std.specs.Option.{is_some, option_map}
use Rattle.row_keeper.specs.Slots.{slot_at_end, slot_at}
use Rattle.row_keeper.proofs.EndLemmas.{at_one}
use Rattle.row_keeper.proofs.SlotLemmas.{is_number, told_at}
use Rattle.row_keeper.proofs.row_slots.end_slot.Goals as goal

pub returns-in-Some : goal.returns-in-Some
returns-in-Some c i =
    let rows = c.args.rows.now.entries in
    let id = c.args.id in
    at_one (slot_at rows) (slot_at (c.get_mut.follows.lender c.end.new.self).entries) (λ n. id == n) id (is_number id) (option_map (slot_at_end c.args.with_changes)) (Some c.end.new.self)
    (ap (λ s. Some s) c.end.ensures ∙ ap (option_map (slot_at_end c.args.with_changes)) c.in-Some.ensures.value) i
    (told_at id i (Some c.end.new.self) (slot_at rows i) _ (((c.get_mut.follows.holds c.end.new.self).3 (ap is_some (sym c.in-Some.ensures.value))).0 i))
