use Rattle.std.proofs.Common.{refl}
use Rattle.fx_cli.specs.Outside.{sight}
use Rattle.fx_cli.specs.Words.{sample}
use Rattle.fx_cli.proofs.Runs.{five_is_a_fault}
use Rattle.fx_cli.proofs.laws.five_is_a_keeper_fault.Goals as goal

pub returns : goal.returns
returns g c = λ words old new run. five_is_a_fault (sight g.D.Doors g.K.Keeper g.F.Files g.O.Sink g.C.Clock) words old new (sample words) refl run
