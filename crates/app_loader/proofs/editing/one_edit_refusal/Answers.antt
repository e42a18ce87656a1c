use Rattle.app_loader.proofs.OneEdit.{one_edit_refusal}
use Rattle.app_loader.proofs.editing.one_edit_refusal.Goals as goal

pub returns : goal.returns
returns c = one_edit_refusal
