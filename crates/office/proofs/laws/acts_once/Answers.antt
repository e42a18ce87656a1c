use Rattle.office.proofs.Again.{acts_once}
use Rattle.office.proofs.laws.acts_once.Goals as goal

pub returns : goal.returns
returns c = acts_once c.leaves_others.ensures c.acts_once.ensures c.one_route.ensures
