use Rattle.app_loader.proofs.OneRefusal.{one_refusal_of_a_file}
use Rattle.app_loader.proofs.verdicts.one_refusal_of_a_file.Goals as goal

pub returns : goal.returns
returns c = one_refusal_of_a_file c.one_reading.ensures c.one_break.ensures
