use Rattle.std.proofs.Common.{map}
use Rattle.serde_json.specs.View.{view}
use Rattle.app_file.specs.Keys.{keys_of}
use Rattle.app_file.proofs.Objects.{only_these, told_none, told_other}
use Rattle.app_file.proofs.keys.check_keys.Goals as goal

pub returns-in-Some-other_key-clause-bad : goal.returns-in-Some-other_key-clause-bad
returns-in-Some-other_key-clause-bad c =
    told_other (keys_of c.args.object) (map (λ k. k.now) c.keys_of.result.now) (view c.args.part.now) c.in-Some.members.now.entries c.in-Some-other_key.key.now c.keys_of.ensures c.in-Some.ensures
    c.in-Some-other_key.ensures c.unreadable.result c.in_member.result c.unreadable.ensures c.in_member.ensures

pub returns-in-None-other_key-clause-ok : goal.returns-in-None-other_key-clause-ok
returns-in-None-other_key-clause-ok c =
    only_these (keys_of c.args.object) (map (λ k. k.now) c.keys_of.result.now) (view c.args.part.now) c.in-Some.members.now.entries c.keys_of.ensures c.in-Some.ensures c.in-None-other_key.ensures

pub returns-in-None-clause-bad : goal.returns-in-None-clause-bad
returns-in-None-clause-bad c = told_none (keys_of c.args.object) (view c.args.part.now) c.in-None.ensures c.unreadable-in-None.result c.unreadable-in-None.ensures
