use Rattle.row_lines.proofs.LineLemmas.{lines_tell, pieces_tell}
use Rattle.row_lines.proofs.laws.lines_tell.Goals as goal

pub returns : goal.returns
returns c = record { cells = lines_tell; pieces = pieces_tell }
