use Rattle.office.proofs.Settling.{stays_settled}
use Rattle.office.proofs.laws.stays_settled.Goals as goal

pub returns : goal.returns
returns c = stays_settled
