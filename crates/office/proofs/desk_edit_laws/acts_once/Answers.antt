use Rattle.office.proofs.Repeats.{acts_once}
use Rattle.office.proofs.desk_edit_laws.acts_once.Goals as goal

pub returns : goal.returns
returns c = acts_once
