use Rattle.app_file.proofs.Verdicts.{one_reading}
use Rattle.app_file.proofs.laws.one_reading.Goals as goal

pub returns : goal.returns
returns c = one_reading
