use Rattle.app_loader.proofs.OneEdit.{one_edited}
use Rattle.app_loader.proofs.editing.one_edited.Goals as goal

pub returns : goal.returns
returns c = one_edited
