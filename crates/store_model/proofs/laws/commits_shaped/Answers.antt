use Rattle.store_model.proofs.ShapeLemmas.{commits_shaped}
use Rattle.store_model.proofs.laws.commits_shaped.Goals as goal

pub returns : goal.returns
returns c = commits_shaped
