use Rattle.std.proofs.Common.{◌≡◌, ◌++◌}
use Rattle.row_keeper.specs.Found.{rows_of_ids}
use Rattle.row_keeper.proofs.picked_rows.rows_at.Given as goal

abbrev pub invariant-loop-id : goal.invariant-loop-id
invariant-loop-id l = (l.found.items ++ rows_of_ids l.rows.entries l.id-iterator) ≡ rows_of_ids l.rows.entries l.ids.keys
