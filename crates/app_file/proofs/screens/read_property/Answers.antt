use Rattle.std.proofs.Common.{false}
use Rattle.serde_json.specs.View.{view}
use Rattle.app_file.specs.FormOfApp.{text}
use Rattle.app_file.proofs.Fine.{bad_below}
use Rattle.app_file.proofs.screens.read_property.Goals as goal

pub returns-in-Err-clause-bad : goal.returns-in-Err-clause-bad
returns-in-Err-clause-bad c =
    bad_below false c.args.key.now text (view c.args.part.now) (view c.in-Some.member.now) c.in-Some.ensures c.in-Err.end c.in_member.result c.in-Err.ensures.bad c.in_member.ensures
