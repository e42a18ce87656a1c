use Rattle.office.proofs.Repeats.{leaves_others}
use Rattle.office.proofs.desk_edit_laws.leaves_others.Goals as goal

pub returns : goal.returns
returns c = leaves_others
