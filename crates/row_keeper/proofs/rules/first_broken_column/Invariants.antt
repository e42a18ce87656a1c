use Rattle.std.proofs.Common.{◌≡◌, ◌+◌, drop}
use Rattle.row_keeper.specs.RowRules.{first_broken, others}
use Rattle.row_keeper.specs.Rules.{breaks_by}
use Rattle.row_keeper.proofs.rules.first_broken_column.Given as goal

abbrev pub invariant-loop-place : goal.invariant-loop-place
invariant-loop-place l =
    first_broken (breaks_by l.rule (others l.id l.table.now.rows)) (l.place + 1) (drop l.place l.columns) (drop l.place l.cells)
    ≡ first_broken (breaks_by l.rule (others l.id l.table.now.rows)) 1 l.table.columns l.cells
