use Rattle.std.proofs.Common.{◌∙◌, List, subst, sym}
use Rattle.std.specs.List.{AllByRecursion}
use Rattle.fx_core.specs.declared.schema.Column.{Column}
use Rattle.row_queries.specs.TableRows.{AreCellsOf}
use Rattle.row_keeper.proofs.MovedLemmas.{all_at}
use Rattle.row_keeper.proofs.RuleLemmas.{at_slice}
use Rattle.row_keeper.specs.Sound.{IsSoundRow}
use Rattle.sql_keeper.proofs.moving.put_rows.Goals as goal

pub line_of-requires : goal.line_of-requires
line_of-requires c =
    let rows = c.deref-row-items.result.now in
    let there = at_slice rows c.loop-row.row-index c.row-item.result c.loop-row-test.true c.row-item.is in
    let sound = all_at (IsSoundRow c.args.table.now.columns) rows c.loop-row.row-index c.row-item.result
    (subst (AllByRecursion (IsSoundRow c.args.table.now.columns)) (sym (c.deref-row-items.ensures.value ∙ c.in_ok-rows.ensures)) c.is_sound.ensures.now.rows) there in
    subst (λ (columns : List Column). AreCellsOf columns c.row-item.result.cells) (sym (c.as_slice.ensures ∙ c.columns.ensures)) sound.fit
