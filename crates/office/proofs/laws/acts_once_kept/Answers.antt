use Rattle.office.proofs.Again.{acts_once_kept}
use Rattle.office.proofs.laws.acts_once_kept.Goals as goal

pub returns : goal.returns
returns c = acts_once_kept c.acts_once.ensures c.one_route.ensures
