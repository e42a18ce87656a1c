use Rattle.office.proofs.Repeats.{one_outcome}
use Rattle.office.proofs.desk_edit_laws.one_outcome.Goals as goal

pub returns : goal.returns
returns c = one_outcome c.one_edit.ensures c.one_edited.ensures c.one_edit_refusal.ensures
