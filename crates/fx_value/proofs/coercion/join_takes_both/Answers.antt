use Rattle.fx_value.proofs.Coercions.{join_takes_both}
use Rattle.fx_value.proofs.coercion.join_takes_both.Goals as goal

pub returns : goal.returns
returns c = join_takes_both
