use Rattle.std.proofs.Common.{sym, subst}
use Rattle.std.specs.Prelude.{IsSomeAnd, slice_get}
use Rattle.fx_core.specs.declared.schema.TableShape.{TableShape}
use Rattle.row_queries.specs.Queries.{IsQuery}
use Rattle.row_queries.specs.TableRows.{AreHeldRows, rows_at}
use Rattle.row_keeper.specs.StoreView.{StoreView}
use Rattle.row_keeper.specs.Tables.{rows_of_tables, shapes_of}
use Rattle.row_keeper.proofs.HeldLemmas.{held_there}
use Rattle.row_keeper.proofs.RuleLemmas.{at_slice}
use Rattle.row_keeper.proofs.StoreLemmas.{within}
use Rattle.row_keeper.proofs.store.Store.are_held.Goals as goal

pub returns : goal.returns
returns c =
    let shapes = shapes_of c.self.inside.schema in
    let q = c.args.query.now in
    let is = subst (λ (w : StoreView). IsQuery (shapes_of w.schema) q) (sym c.self.view_is) c.requires in
    let tables = c.self.inside.tables.items in
    let there = at_slice tables q.table c.index-table.result.now (within tables shapes q.table is.table c.self.invariant.columns is.is_table) c.index-table.ensures in
    subst (λ (w : StoreView). IsSomeAnd (slice_get (shapes_of w.schema) q.table) (λ (t : TableShape). AreHeldRows t (rows_at (rows_of_tables w.now) q.table))) c.self.view_is
    (held_there shapes tables q.table is.table c.index-table.result.now c.self.invariant.columns is.is_table there c.is_sound.ensures)
