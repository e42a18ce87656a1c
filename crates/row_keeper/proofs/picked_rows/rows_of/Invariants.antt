use Rattle.std.proofs.Common.{◌≡◌, take}
use Rattle.row_keeper.specs.Found.{rows_of_ids}
use Rattle.row_keeper.proofs.picked_rows.rows_of.Given as goal

abbrev pub invariant-loop-id : goal.invariant-loop-id
invariant-loop-id l = l.found.items ≡ rows_of_ids l.rows.entries (take l.id-index l.ids)
