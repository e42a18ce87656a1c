use Rattle.std.proofs.Common.{refl}
use Rattle.fx_cli.specs.Outside.{sight}
use Rattle.fx_cli.specs.Words.{sample}
use Rattle.fx_cli.proofs.Runs.{six_is_a_fault}
use Rattle.fx_cli.proofs.laws.six_is_a_fault_of_doors.Goals as goal

pub returns : goal.returns
returns g c = λ words old new run. six_is_a_fault (sight g.D.Doors g.K.Keeper g.F.Files g.O.Sink g.C.Clock) words old new (sample words) refl run
