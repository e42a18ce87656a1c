use Rattle.std.proofs.Common.{◌≡◌, drop}
use Rattle.std.specs.List.{find}
use Rattle.app_semantics.specs.Chosen.{is_item_of_id}
use Rattle.recalc.proofs.chosen_items.row_of.Given as goal

-- it isn't among those that were seen
abbrev pub invariant-loop-row : goal.invariant-loop-row
invariant-loop-row l = find (is_item_of_id l.number) (drop l.row-index l.rows) ≡ find (is_item_of_id l.number) l.rows
