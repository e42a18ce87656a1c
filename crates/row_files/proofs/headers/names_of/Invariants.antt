use Rattle.std.proofs.Common.{◌≡◌, map, take}
use Rattle.csv.specs.Records.{fields_of}
use Rattle.fx_types.specs.Words.{scalars_of}
use Rattle.row_files.proofs.headers.names_of.Given as goal

abbrev pub invariant-loop-place : goal.invariant-loop-place
invariant-loop-place l = l.names ≡ map scalars_of (take l.place (fields_of l.fn.header))
