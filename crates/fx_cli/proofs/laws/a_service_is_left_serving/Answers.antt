use Rattle.fx_cli.specs.Outside.{sight}
use Rattle.fx_cli.proofs.Left.{leaves_serving}
use Rattle.fx_cli.proofs.laws.a_service_is_left_serving.Goals as goal

pub returns : goal.returns
returns g c = λ words old new status run serve ends. leaves_serving (sight g.D.Doors g.K.Keeper g.F.Files g.O.Sink g.C.Clock) words old new status run serve ends
