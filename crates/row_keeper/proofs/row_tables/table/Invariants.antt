use Rattle.row_keeper.proofs.Records.{AllCome}
use Rattle.row_keeper.proofs.row_tables.table.Given as goal

-- the columns so far
abbrev pub invariant-loop-place : goal.invariant-loop-place
invariant-loop-place l = AllCome l.shape l.place l.rows l.records
