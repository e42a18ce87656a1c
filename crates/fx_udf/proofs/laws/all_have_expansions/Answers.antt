use Rattle.fx_udf.proofs.Expansions.{all_have_expansions}
use Rattle.fx_udf.proofs.laws.all_have_expansions.Goals as goal

pub returns : goal.returns
returns c = all_have_expansions
