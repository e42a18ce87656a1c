use Rattle.std.proofs.Common.{arith, sym, subst}
use Rattle.row_changes.specs.declared.table.TableChanges.{TableChanges}
use Rattle.store_model.specs.Laws.{IsEnded}
use Rattle.store_writing.proofs.EndLemmas.{all_ended, one_more_ended}
use Rattle.store_writing.proofs.ending.end_each.Goals as goal

pub loop-table-preserved : goal.loop-table-preserved
loop-table-preserved c =
    one_more_ended c.args.with_changes c.loop-table.table-index c.args.tables.now c.loop-table.tables c.table-item.result c.end_one.new.table (omega (arith, c.loop-table-test.true, c.loop-table.auto.tables)) c.table-item.is
    (subst (λ (x : TableChanges). IsEnded c.args.with_changes x c.end_one.new.table) (sym c.table-item.is) c.end_one.ensures) c.loop-table.invariant

pub returns : goal.returns
returns c = all_ended c.args.with_changes c.loop-table.table-index c.args.tables.now c.loop-table.tables (omega arith) c.loop-table.invariant
