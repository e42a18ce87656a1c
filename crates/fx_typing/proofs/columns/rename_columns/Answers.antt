use Rattle.std.proofs.Common.{◌∙◌}
use Rattle.fx_types.specs.Types.{column_list}
use Rattle.fx_typing.proofs.Pairs.{renamed_step}
use Rattle.fx_typing.proofs.columns.rename_columns.Goals as goal

pub loop-more-preserved : goal.loop-more-preserved
loop-more-preserved c =
    renamed_step c.loop-more.more.now c.from-item.result c.to-item.result c.in_ok-from.from c.in_ok-to.to (column_list c.loop-more.columns) (column_list c.in_ok-columns.columns)
    c.in-len2-up.len_at_least c.from-item.is c.to-item.is c.in_ok-from.ensures c.in_ok-to.ensures c.in_ok-columns.ensures
    ∙ c.loop-more.invariant
