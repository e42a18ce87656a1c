use Rattle.fx_cli.specs.Outside.{sight}
use Rattle.fx_cli.proofs.Runs.{eight_is_another}
use Rattle.fx_cli.proofs.laws.eight_is_another_schema.Goals as goal

pub returns : goal.returns
returns g c = λ words old new run none. eight_is_another (sight g.D.Doors g.K.Keeper g.F.Files g.O.Sink g.C.Clock) words old new run none
