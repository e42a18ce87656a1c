use Rattle.fx_scalar.proofs.ErrorLemmas.{records_tell}
use Rattle.fx_scalar.proofs.laws.records_tell.Goals as goal

pub returns : goal.returns
returns c = records_tell
