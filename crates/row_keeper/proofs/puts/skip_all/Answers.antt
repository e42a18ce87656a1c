use Rattle.std.proofs.Common.{◌∙◌, ap, sym}
use Rattle.std.specs.Prelude.{set}
use Rattle.std.proofs.lemmas.List.Edits.{map_over_more}
use Rattle.row_keeper.specs.Skips.{passed_now}
use Rattle.row_keeper.proofs.puts.skip_all.Goals as goal

pub loop-table-preserved : goal.loop-table-preserved
loop-table-preserved c =
    ap (set c.loop-table.tables c.loop-table.table-index) (c.skip_to.ensures ∙ ap (passed_now c.args.number) (sym c.table-item.is))
    ∙ map_over_more (passed_now c.args.number) c.args.tables.now c.loop-table.tables c.loop-table.table-index c.table-item.result c.loop-table-test.true c.loop-table.invariant c.table-item.is
