use Rattle.std.proofs.Common.{◌≡◌, ◌++◌}
use Rattle.row_keeper.specs.Slots.{rows_now}
use Rattle.row_keeper.proofs.picked_rows.all_rows.Given as goal

abbrev pub invariant-loop-id : goal.invariant-loop-id
invariant-loop-id l = (l.found.items ++ rows_now l.id-iterator) ≡ rows_now l.rows.entries
