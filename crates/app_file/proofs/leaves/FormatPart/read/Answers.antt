use Rattle.serde_json.specs.View.{view}
use Rattle.app_file.specs.FormOfApp.{format_member}
use Rattle.app_file.proofs.Fine.{told_leaf}
use Rattle.app_file.proofs.leaves.FormatPart.read.Goals as goal

pub returns-in-None-clause-bad : goal.returns-in-None-clause-bad
returns-in-None-clause-bad c = told_leaf format_member (view c.args.part.now) c.in-None.ensures c.unreadable.result c.unreadable.ensures
