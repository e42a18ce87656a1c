use Rattle.store_model.proofs.CommitLemmas.{commits_told}
use Rattle.store_model.proofs.laws.commits_told.Goals as goal

pub returns : goal.returns
returns c = commits_told
