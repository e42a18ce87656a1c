use Rattle.std.proofs.Common.{◌≡◌, take}
use Rattle.row_files.specs.Batches.{numbers_of}
use Rattle.row_files.proofs.headers.numbers_of.Given as goal

abbrev pub invariant-loop-name : goal.invariant-loop-name
invariant-loop-name l = l.numbers ≡ numbers_of l.columns (take l.name-index l.names)
