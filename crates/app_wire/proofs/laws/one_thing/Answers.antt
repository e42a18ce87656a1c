use Rattle.app_wire.proofs.OneThing.{one_thing}
use Rattle.app_wire.proofs.laws.one_thing.Goals as goal

pub returns : goal.returns
returns c = one_thing
