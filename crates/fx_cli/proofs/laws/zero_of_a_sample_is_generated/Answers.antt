use Rattle.fx_cli.specs.Outside.{sight}
use Rattle.fx_cli.proofs.Runs.{zero_is_generated}
use Rattle.fx_cli.proofs.laws.zero_of_a_sample_is_generated.Goals as goal

pub returns : goal.returns
returns g c = λ words old new n run some. zero_is_generated (sight g.D.Doors g.K.Keeper g.F.Files g.O.Sink g.C.Clock) words old new n run some
