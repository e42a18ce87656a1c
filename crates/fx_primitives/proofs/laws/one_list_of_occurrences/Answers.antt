use Rattle.fx_primitives.proofs.Replacing.{one_list}
use Rattle.fx_primitives.proofs.laws.one_list_of_occurrences.Goals as goal

pub returns : goal.returns
returns c = one_list
