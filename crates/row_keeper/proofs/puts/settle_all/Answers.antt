use Rattle.std.proofs.Common.{◌∙◌, ap, sym}
use Rattle.std.specs.Prelude.{set}
use Rattle.std.proofs.lemmas.List.Edits.{map_over_more}
use Rattle.row_keeper.specs.OneTable.{view_settled}
use Rattle.row_keeper.proofs.puts.settle_all.Goals as goal

pub loop-table-preserved : goal.loop-table-preserved
loop-table-preserved c =
    ap (set c.loop-table.tables c.loop-table.table-index) (c.settle.ensures ∙ ap view_settled (sym c.table-item.is))
    ∙ map_over_more view_settled c.args.tables.now c.loop-table.tables c.loop-table.table-index c.table-item.result c.loop-table-test.true c.loop-table.invariant c.table-item.is
