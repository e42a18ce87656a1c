use Rattle.row_changes.proofs.MoveLemmas.{made_tells}
use Rattle.row_changes.proofs.laws.made_tells.Goals as goal

pub returns : goal.returns
returns c = made_tells
