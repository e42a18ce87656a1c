use Rattle.app_loader.proofs.OneEdit.{one_edit}
use Rattle.app_loader.proofs.editing.one_edit.Goals as goal

pub returns : goal.returns
returns c = one_edit
