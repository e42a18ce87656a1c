use Rattle.serde_json.specs.View.{view}
use Rattle.app_file.specs.FormOfApp.{control_kind}
use Rattle.app_file.proofs.Fine.{told_leaf}
use Rattle.app_file.proofs.leaves.ControlPart.read.Goals as goal

pub returns-in-None-clause-bad : goal.returns-in-None-clause-bad
returns-in-None-clause-bad c = told_leaf control_kind (view c.args.part.now) c.in-None.ensures c.unreadable.result c.unreadable.ensures
