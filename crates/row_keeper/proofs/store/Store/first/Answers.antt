use Rattle.std.proofs.Common.{◌≡◌, ◌⊎◌, ◌∙◌, ap, sym, subst, true, filter, take}
use Rattle.std.specs.Prelude.{IsSomeAnd, slice_get}
use Rattle.std.specs.List.{AllByRecursion}
use Rattle.fx_core.specs.declared.schema.TableShape.{TableShape}
use Rattle.row_queries.specs.Queries.{AreAsked, IsQuery}
use Rattle.row_queries.specs.Ranges.{AreRangesRising, HoldEveryKey}
use Rattle.row_queries.specs.TableRows.{IsRowOf, rows_at}
use Rattle.row_keeper.specs.Covered.{covered_of, covers}
use Rattle.row_keeper.specs.Pages.{AreFirstRows, GoesByNumber}
use Rattle.row_keeper.specs.Sound.{lies_among}
use Rattle.row_keeper.specs.StoreView.{StoreView}
use Rattle.row_keeper.specs.Tables.{rows_of_tables, shapes_of}
use Rattle.row_keeper.proofs.AnswerLemmas.{asks}
use Rattle.row_keeper.proofs.RuleLemmas.{at_slice}
use Rattle.row_keeper.proofs.StoreLemmas.{asked_fit, asked_within, first_fit, first_is, has_column, reaches, within}
use Rattle.row_keeper.proofs.store.Store.first.Goals as goal

pub first-requires-clause-column : goal.first-requires-clause-column
first-requires-clause-column c =
    let shapes = shapes_of c.self.inside.schema in
    let q = c.args.query.now in
    let is = subst (λ (w : StoreView). IsQuery (shapes_of w.schema) q) (sym c.self.view_is) c.requires.query in
    let tables = c.self.inside.tables.items in
    let there = at_slice tables q.table c.index-table.result.now (within tables shapes q.table is.table c.self.invariant.columns is.is_table) c.index-table.ensures in
    has_column shapes q is tables c.index-table.result.now c.self.invariant.columns there

pub first-requires-clause-reaches : goal.first-requires-clause-reaches
first-requires-clause-reaches c =
    let shapes = shapes_of c.self.inside.schema in
    let q = c.args.query.now in
    let is = subst (λ (w : StoreView). IsQuery (shapes_of w.schema) q) (sym c.self.view_is) c.requires.query in
    let tables = c.self.inside.tables.items in
    let there = at_slice tables q.table c.index-table.result.now (within tables shapes q.table is.table c.self.invariant.columns is.is_table) c.index-table.ensures in
    subst (λ rs. (covers (covered_of c.index-table.result.now.columns) q.column ≡ true) ⊎ HoldEveryKey rs) (sym c.as_slice.ensures)
    (reaches shapes q is tables c.index-table.result.now c.self.invariant.columns there)

pub first-requires-clause-rises : goal.first-requires-clause-rises
first-requires-clause-rises c =
    let is = subst (λ (w : StoreView). IsQuery (shapes_of w.schema) c.args.query.now) (sym c.self.view_is) c.requires.query in
    subst AreRangesRising (sym c.as_slice.ensures) is.rises

pub first-requires-clause-goes : goal.first-requires-clause-goes
first-requires-clause-goes c = subst (GoesByNumber c.args.query.now.column) (sym c.as_slice.ensures) c.requires.goes

pub returns-clause-first : goal.returns-clause-first
returns-clause-first c =
    let shapes = shapes_of c.self.inside.schema in
    let q = c.args.query.now in
    let is = subst (λ (w : StoreView). IsQuery (shapes_of w.schema) q) (sym c.self.view_is) c.requires.query in
    let tables = c.self.inside.tables.items in
    let there = at_slice tables q.table c.index-table.result.now (within tables shapes q.table is.table c.self.invariant.columns is.is_table) c.index-table.ensures in
    let rows = c.in_ok-first.field-0.items in
    let e = c.in_ok-first.ensures ∙ ap (λ rs. take c.args.most (filter (lies_among q.column rs) c.index-table.result.now.now.rows)) c.as_slice.ensures in
    subst (λ (w : StoreView). AreFirstRows q (rows_at (rows_of_tables w.now) q.table) c.args.most rows) c.self.view_is
    (first_is shapes q is tables c.index-table.result.now c.self.invariant.columns there c.requires.order c.is_sound.ensures c.args.most rows e)

pub returns-clause-fit : goal.returns-clause-fit
returns-clause-fit c =
    let shapes = shapes_of c.self.inside.schema in
    let q = c.args.query.now in
    let is = subst (λ (w : StoreView). IsQuery (shapes_of w.schema) q) (sym c.self.view_is) c.requires.query in
    let tables = c.self.inside.tables.items in
    let there = at_slice tables q.table c.index-table.result.now (within tables shapes q.table is.table c.self.invariant.columns is.is_table) c.index-table.ensures in
    let rows = c.in_ok-first.field-0.items in
    let e = c.in_ok-first.ensures ∙ ap (λ rs. take c.args.most (filter (lies_among q.column rs) c.index-table.result.now.now.rows)) c.as_slice.ensures in
    subst (λ (w : StoreView). IsSomeAnd (slice_get (shapes_of w.schema) q.table) (λ (t : TableShape). AllByRecursion (IsRowOf t) rows)) c.self.view_is
    (first_fit shapes q is tables c.index-table.result.now c.self.invariant.columns there c.is_sound.ensures c.args.most rows e)

pub returns-clause-able : goal.returns-clause-able
returns-clause-able c asked are =
    let shapes = shapes_of c.self.inside.schema in
    let q = c.args.query.now in
    let is = subst (λ (w : StoreView). IsQuery (shapes_of w.schema) q) (sym c.self.view_is) c.requires.query in
    let tables = c.self.inside.tables.items in
    let there = at_slice tables q.table c.index-table.result.now (within tables shapes q.table is.table c.self.invariant.columns is.is_table) c.index-table.ensures in
    let here = subst (λ (w : StoreView). AreAsked q (rows_at (rows_of_tables w.now) q.table) asked) (sym c.self.view_is) are in
    asks shapes q asked is (asked_fit shapes q is tables c.index-table.result.now c.self.invariant.columns there asked c.is_sound.ensures (asked_within shapes q is tables c.index-table.result.now c.self.invariant.columns there asked here))
