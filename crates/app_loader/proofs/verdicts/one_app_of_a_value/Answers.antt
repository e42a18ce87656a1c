use Rattle.app_loader.proofs.OneVerdict.{one_app_of_a_value}
use Rattle.app_loader.proofs.verdicts.one_app_of_a_value.Goals as goal

pub returns : goal.returns
returns c = one_app_of_a_value
