use Rattle.office.proofs.Settling.{starts_settled}
use Rattle.office.proofs.laws.starts_settled.Goals as goal

pub returns : goal.returns
returns c = starts_settled
