use Rattle.office.proofs.Isolation.{leaves_desk}
use Rattle.office.proofs.laws.leaves_desk.Goals as goal

pub returns : goal.returns
returns c = leaves_desk
