use Rattle.std.proofs.Common.{◌≡◌, [], take, drop}
use Rattle.row_files.specs.Batches.{bad_name}
use Rattle.row_files.proofs.headers.bad_name.Given as goal

abbrev pub invariant-loop-place : goal.invariant-loop-place
invariant-loop-place l = bad_name l.columns (take l.place l.names) (drop l.place l.names) ≡ bad_name l.columns [] l.names
