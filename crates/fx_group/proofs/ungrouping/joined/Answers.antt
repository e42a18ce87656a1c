use Rattle.fx_group.proofs.JoinedSteps.{first_free, joined_more, rest_free, rest_rises}
use Rattle.fx_group.proofs.ungrouping.joined.Goals as goal

pub with_field-requires : goal.with_field-requires
with_field-requires c =
    first_free c.loop-name.name-iterator.rest.items c.next.new.self.rest.items c.in-Some.name c.in-Some.value c.loop-name.joined c.in-Some.ensures.steps.0 c.loop-name.invariant.free

pub loop-name-preserved : goal.loop-name-preserved
loop-name-preserved c =
    let all = c.loop-name.name-iterator.rest.items in
    let rest = c.next.new.self.rest.items in
    let n = c.in-Some.name in
    let v = c.in-Some.value in
    let r = c.loop-name.joined in
    let left = c.in-Some.ensures.steps.0 in
    let inv = c.loop-name.invariant in
    record {
      value = joined_more all rest n v r c.in_ok-joined.joined _ left c.in_ok-joined.ensures inv.value;
      rises = rest_rises all rest n v left inv.rises;
      free = rest_free all rest n v r c.in_ok-joined.joined left c.in_ok-joined.ensures inv.rises inv.free;
    }
