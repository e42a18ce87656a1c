use Rattle.std.proofs.Common.{false}
use Rattle.serde_json.specs.View.{view}
use Rattle.app_file.proofs.Fine.{bad_below}
use Rattle.app_file.proofs.parts.read_member_or.Goals as goal

pub returns-in-Some-clause-bad : goal.returns-in-Some-clause-bad
returns-in-Some-clause-bad g c =
    bad_below false c.args.key.now g.T.Part.form (view c.args.part.now) (view c.in-Some.member.now) c.in-Some.ensures c.in-Err.end c.in_member.result c.in-Err.ensures.bad c.in_member.ensures
