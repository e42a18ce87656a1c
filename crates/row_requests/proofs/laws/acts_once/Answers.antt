use Rattle.row_requests.proofs.Again.{acts_once}
use Rattle.row_requests.proofs.laws.acts_once.Goals as goal

pub returns : goal.returns
returns c = acts_once
