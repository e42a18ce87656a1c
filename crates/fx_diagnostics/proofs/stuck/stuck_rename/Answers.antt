use Rattle.std.proofs.Common.{◌∙◌, ap}
use Rattle.fx_types.specs.Types.{column_list}
use Rattle.fx_types.specs.TypeView.{shape}
use Rattle.fx_typing.specs.TypedView.{piece_view}
use Rattle.fx_core.specs.ColumnLists.{field_in}
use Rattle.fx_diagnostics.proofs.Pairs.{renamed_step, known}
use Rattle.fx_diagnostics.proofs.stuck.stuck_rename.Goals as goal

pub loop-more-preserved : goal.loop-more-preserved
loop-more-preserved c =
    let x = c.in-Label-Label.from in
    let t = known (λ t. shape t.now) c.field_in.result (field_in x (column_list c.loop-more.columns)) c.field_in.ensures c.if-is_none.ensures in
    renamed_step (λ p. piece_view p.now) c.loop-more.more.now c.from-item.result c.to-item.result x c.in-Label-Label.to t.0
    (column_list c.loop-more.columns) (column_list c.in-Ok.columns)
    c.in-len2-up.len_at_least c.from-item.is c.to-item.is (ap piece_view c.in-Label-Label.is-0) (ap piece_view c.in-Label-Label.is-1) t.1
    (rw c.in_ok-copy.ensures at c.in-Ok.ensures)
    ∙ c.loop-more.invariant
