use Rattle.recalc.proofs.Freshening.{clean_is_fresh}
use Rattle.recalc.proofs.laws.clean_is_fresh.Goals as goal

pub returns : goal.returns
returns c = clean_is_fresh
