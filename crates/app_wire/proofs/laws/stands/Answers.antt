use Rattle.app_wire.proofs.Stands.{stands}
use Rattle.app_wire.proofs.laws.stands.Goals as goal

pub returns : goal.returns
returns c = stands
