use Rattle.std.proofs.Common.{ap, sym, ◌∙◌}
use Rattle.fx_types.specs.Types.{column_list}
use Rattle.fx_typing.specs.Breaks.{part_name, taken_name}
use Rattle.fx_resolve.specs.PartView.{judged_part}
use Rattle.fx_call_typing.proofs.GroupNames.{taken_by_last}
use Rattle.fx_call_typing.proofs.taken.taken_last.Goals as goal

pub returns-in-len1-up : goal.returns-in-len1-up
returns-in-len1-up c =
    let cs = column_list c.args.columns.now in
    c.name_there.ensures
    ∙ ap (λ p. taken_name (part_name (judged_part p)) cs) c.group-item.is
    ∙ sym (taken_by_last judged_part c.args.all.now c.group-item.result cs c.in-len1-up.len_at_least)
