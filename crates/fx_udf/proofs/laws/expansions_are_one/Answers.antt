use Rattle.fx_udf.proofs.Expansions.{expansions_are_one}
use Rattle.fx_udf.proofs.laws.expansions_are_one.Goals as goal

pub returns : goal.returns
returns c = expansions_are_one
