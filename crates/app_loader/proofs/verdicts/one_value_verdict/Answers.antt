use Rattle.app_loader.proofs.OneVerdict.{one_value_verdict}
use Rattle.app_loader.proofs.verdicts.one_value_verdict.Goals as goal

pub returns : goal.returns
returns c = one_value_verdict
