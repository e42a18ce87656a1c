use Rattle.std.proofs.Common.{codes, false}
use Rattle.serde_json.specs.View.{view}
use Rattle.app_file.specs.FormOfApp.{properties_form}
use Rattle.app_file.proofs.Fine.{bad_below}
use Rattle.app_file.proofs.screens.properties_at.Goals as goal

pub returns-in-Err-clause-bad : goal.returns-in-Err-clause-bad
returns-in-Err-clause-bad c =
    bad_below false (codes "properties") (properties_form c.args.kind) (view c.args.part.now) (view c.in-Some.member.now) c.in-Some.ensures c.in-Err.end c.in_member.result c.in-Err.ensures.bad c.in_member.ensures
