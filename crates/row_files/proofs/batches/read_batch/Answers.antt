use Rattle.std.proofs.Common.{map}
use Rattle.csv.specs.Records.{fields_of}
use Rattle.row_files.proofs.Answered.{gives_batch}
use Rattle.row_files.proofs.batches.read_batch.Goals as goal

pub returns : goal.returns
returns c =
    gives_batch c.args.shape.now.columns c.args.key c.args.text.now (map fields_of c.in_ok-records.records.items) c.in_ok-records.ensures c.batch_of.result
    (rw (c.as_slice-columns.ensures, c.as_slice.ensures.value) at c.batch_of.ensures)
