use Rattle.row_files.proofs.Reading.{one_reading_law}
use Rattle.row_files.proofs.laws.one_reading.Goals as goal

pub returns : goal.returns
returns c = one_reading_law
