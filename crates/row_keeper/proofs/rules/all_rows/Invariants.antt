use Rattle.std.proofs.Common.{◌≡◌, ◌-◌, ◌^◌, min, take}
use Rattle.row_keeper.specs.TableView.{states_now}
use Rattle.row_keeper.specs.Tables.{all_rows}
use Rattle.row_keeper.proofs.rules.all_rows.Given as goal

abbrev pub invariant-loop-table : goal.invariant-loop-table
invariant-loop-table l = l.sum ≡ min (all_rows (states_now (take l.table-index l.tables))) (2 ^ 64 - 1)
