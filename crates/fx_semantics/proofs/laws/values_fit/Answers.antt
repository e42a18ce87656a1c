use Rattle.fx_semantics.proofs.Whole.{all_sound}
use Rattle.fx_semantics.proofs.laws.values_fit.Goals as goal

pub returns : goal.returns
returns c = all_sound
