use Rattle.app_loader.proofs.OneVerdict.{one_verdict}
use Rattle.app_loader.proofs.verdicts.one_verdict.Goals as goal

pub returns : goal.returns
returns c = one_verdict
