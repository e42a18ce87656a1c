use Rattle.office.proofs.Silence.{silent}
use Rattle.office.proofs.laws.silent.Goals as goal

pub returns : goal.returns
returns c = silent
