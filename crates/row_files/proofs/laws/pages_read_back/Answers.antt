use Rattle.row_files.proofs.ReadBack.{pages_law}
use Rattle.row_files.proofs.laws.pages_read_back.Goals as goal

pub returns : goal.returns
returns c = pages_law
