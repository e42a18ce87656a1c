use Rattle.app_loader.proofs.OneVerdict.{one_app_of_a_text}
use Rattle.app_loader.proofs.verdicts.one_app_of_a_text.Goals as goal

pub returns : goal.returns
returns c = one_app_of_a_text
