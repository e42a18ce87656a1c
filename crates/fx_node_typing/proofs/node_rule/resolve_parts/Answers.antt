use Rattle.std.proofs.Common.{◌≡◌, length, true, rules, sym, ◌∙◌}
use Rattle.fx_types.specs.TypeView.{shape}
use Rattle.fx_core.specs.Rows.{takes_count}
use Rattle.fx_node_typing.proofs.StandSteps.{stood_length}
use Rattle.fx_node_typing.proofs.node_rule.resolve_parts.Goals as goal

pub returns-clause-count : goal.returns-clause-count
returns-clause-count c =
    let l : length c.in_ok-parts.parts.items ≡ length c.args.parts.items = stood_length c.args.row (shape c.in-Some.common) c.args.parts.items c.in_ok-parts.parts.items c.in_ok-parts.ensures in
    let t : takes_count c.args.row (length c.args.parts.items) ≡ true = search rules in
    rw l t
