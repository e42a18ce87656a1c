use Rattle.app_loader.proofs.OneRefusal.{one_refusal_of_a_value}
use Rattle.app_loader.proofs.verdicts.one_refusal_of_a_value.Goals as goal

pub returns : goal.returns
returns c = one_refusal_of_a_value
