use Rattle.std.proofs.Common.{◌≡◌, ◌+◌, drop}
use Rattle.row_keeper.specs.RowRules.{first_broken, lacks}
use Rattle.store_rows.proofs.columns.first_lacking.Given as goal

abbrev pub invariant-loop-place : goal.invariant-loop-place
invariant-loop-place l = first_broken (lacks) (l.place + 1) (drop l.place l.columns) (drop l.place l.cells) ≡ first_broken (lacks) 1 l.columns l.cells
