use Rattle.std.proofs.Common.{◌∙◌}
use Rattle.fx_types.specs.Types.{column_list}
use Rattle.fx_typing.proofs.Pairs.{added_step}
use Rattle.fx_typing.proofs.columns.add_columns.Goals as goal

pub loop-more-preserved : goal.loop-more-preserved
loop-more-preserved c =
    added_step c.loop-more.more.now c.label-item.result c.formula-item.result c.in_ok-name.name (column_list c.loop-more.columns) (column_list c.in_ok-columns.columns)
    c.in-len2-up.len_at_least c.label-item.is c.formula-item.is c.in_ok-name.ensures (rw c.in_ok-copy.ensures at c.in_ok-columns.ensures)
    ∙ c.loop-more.invariant
