use Rattle.std.proofs.Common.{◌∙◌}
use Rattle.csv.specs.Records.{fields_of}
use Rattle.row_files.proofs.Steps.{field_slice}
use Rattle.row_files.proofs.records.field_at.Goals as goal

pub returns : goal.returns
returns c = c.get.ensures.value ∙ field_slice (fields_of c.args.line.now) c.args.place
