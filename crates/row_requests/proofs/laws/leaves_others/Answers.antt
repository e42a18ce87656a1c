use Rattle.row_requests.proofs.Again.{leaves_others}
use Rattle.row_requests.proofs.laws.leaves_others.Goals as goal

pub returns : goal.returns
returns c = leaves_others
