use Rattle.std.proofs.Common.{ap, sym, ◌∙◌}
use Rattle.std.proofs.lemmas.Result.{on_ok_weaker}
use Rattle.fx_types.specs.ValueView.{view}
use Rattle.fx_group.proofs.JoinedSteps.{group_first, group_free, none_more}
use Rattle.fx_group.proofs.ungrouping.put_group.Goals as goal

pub put_beside-requires : goal.put_beside-requires
put_beside-requires c =
    group_free c.args.group.now c.args.row c.take_field-value.result.1 (view c.take_field-value.result.0) c.in-Tab.rows c.take_field-value.ensures.value (ap view c.in-Tab.is) c.take_field-value.ensures.others c.requires

pub returns-in-Tab : goal.returns-in-Tab
returns-in-Tab c =
    on_ok_weaker c.put_beside.result
    (λ h. h ∙ group_first c.args.group.now c.args.row c.take_field-value.result.1 (view c.take_field-value.result.0) c.in-Tab.rows c.args.all.now.items c.take_field-value.ensures.value (ap view c.in-Tab.is) c.take_field-value.ensures.others)
    c.put_beside.ensures

pub returns : goal.returns
returns c = none_more c.args.group.now c.args.row c.take_field-value.result.0 c.args.all.now.items c.take_field-value.ensures.value c.in_default.not-Tab
