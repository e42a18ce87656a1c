use Rattle.store_model.proofs.RestoreLemmas.{restores_kept}
use Rattle.store_model.proofs.laws.restores_kept.Goals as goal

pub returns : goal.returns
returns c = restores_kept
