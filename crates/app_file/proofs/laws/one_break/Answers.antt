use Rattle.app_file.proofs.Verdicts.{one_break}
use Rattle.app_file.proofs.laws.one_break.Goals as goal

pub returns : goal.returns
returns c = one_break
