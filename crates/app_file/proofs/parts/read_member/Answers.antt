use Rattle.std.proofs.Common.{true}
use Rattle.serde_json.specs.View.{view}
use Rattle.app_file.proofs.Fine.{bad_below, bad_missing}
use Rattle.app_file.proofs.parts.read_member.Goals as goal

pub returns-in-Err-clause-bad : goal.returns-in-Err-clause-bad
returns-in-Err-clause-bad g c =
    bad_below true c.args.key.now g.T.Part.form (view c.args.part.now) (view c.in-Some.member.now) c.in-Some.ensures c.in-Err.end c.in_member.result c.in-Err.ensures.bad c.in_member.ensures

pub returns-in-None-clause-bad : goal.returns-in-None-clause-bad
returns-in-None-clause-bad g c = bad_missing c.args.key.now g.T.Part.form (view c.args.part.now) c.requires c.in-None.ensures c.unread_member.result c.unread_member.ensures
