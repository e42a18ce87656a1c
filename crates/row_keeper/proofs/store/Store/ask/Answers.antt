use Rattle.std.proofs.Common.{◌≡◌, ◌⊎◌, ◌∙◌, ap, sym, subst, true, filter}
use Rattle.std.specs.Prelude.{IsSomeAnd, slice_get}
use Rattle.std.specs.List.{AllByRecursion}
use Rattle.std.specs.List.Sorted.{IsPermutation}
use Rattle.fx_core.specs.declared.schema.TableShape.{TableShape}
use Rattle.row_queries.specs.Queries.{AreAsked, IsQuery}
use Rattle.row_queries.specs.Ranges.{HoldEveryKey}
use Rattle.row_queries.specs.TableRows.{IsRowOf, rows_at}
use Rattle.row_keeper.specs.Covered.{covered_of, covers}
use Rattle.row_keeper.specs.Sound.{lies_among}
use Rattle.row_keeper.specs.StoreView.{StoreView}
use Rattle.row_keeper.specs.Tables.{rows_of_tables, shapes_of}
use Rattle.row_keeper.proofs.RuleLemmas.{at_slice}
use Rattle.row_keeper.proofs.StoreLemmas.{asked_few, asked_fit, asked_is, has_column, reaches, within}
use Rattle.row_keeper.proofs.store.Store.ask.Goals as goal

pub ask-requires-clause-column : goal.ask-requires-clause-column
ask-requires-clause-column c =
    let shapes = shapes_of c.self.inside.schema in
    let q = c.args.query.now in
    let is = subst (λ (w : StoreView). IsQuery (shapes_of w.schema) q) (sym c.self.view_is) c.requires in
    let tables = c.self.inside.tables.items in
    let there = at_slice tables q.table c.index-table.result.now (within tables shapes q.table is.table c.self.invariant.columns is.is_table) c.index-table.ensures in
    has_column shapes q is tables c.index-table.result.now c.self.invariant.columns there

pub ask-requires-clause-reaches : goal.ask-requires-clause-reaches
ask-requires-clause-reaches c =
    let shapes = shapes_of c.self.inside.schema in
    let q = c.args.query.now in
    let is = subst (λ (w : StoreView). IsQuery (shapes_of w.schema) q) (sym c.self.view_is) c.requires in
    let tables = c.self.inside.tables.items in
    let there = at_slice tables q.table c.index-table.result.now (within tables shapes q.table is.table c.self.invariant.columns is.is_table) c.index-table.ensures in
    subst (λ rs. (covers (covered_of c.index-table.result.now.columns) q.column ≡ true) ⊎ HoldEveryKey rs) (sym c.as_slice.ensures)
    (reaches shapes q is tables c.index-table.result.now c.self.invariant.columns there)

pub returns-clause-asked : goal.returns-clause-asked
returns-clause-asked c =
    let shapes = shapes_of c.self.inside.schema in
    let q = c.args.query.now in
    let is = subst (λ (w : StoreView). IsQuery (shapes_of w.schema) q) (sym c.self.view_is) c.requires in
    let tables = c.self.inside.tables.items in
    let there = at_slice tables q.table c.index-table.result.now (within tables shapes q.table is.table c.self.invariant.columns is.is_table) c.index-table.ensures in
    let sorted = c.sort_rows.new.rows.items in
    let moved = subst (λ xs. IsPermutation xs sorted) (c.in_ok-rows.ensures ∙ ap (λ rs. filter (lies_among q.column rs) c.index-table.result.now.now.rows) c.as_slice.ensures) c.in_ok-sort_rows.ensures.permutation in
    subst (λ (w : StoreView). AreAsked q (rows_at (rows_of_tables w.now) q.table) sorted) c.self.view_is
    (asked_is shapes q is tables c.index-table.result.now c.self.invariant.columns there sorted moved c.in_ok-sort_rows.ensures.sorted)

pub returns-clause-fit : goal.returns-clause-fit
returns-clause-fit c =
    let shapes = shapes_of c.self.inside.schema in
    let q = c.args.query.now in
    let is = subst (λ (w : StoreView). IsQuery (shapes_of w.schema) q) (sym c.self.view_is) c.requires in
    let tables = c.self.inside.tables.items in
    let there = at_slice tables q.table c.index-table.result.now (within tables shapes q.table is.table c.self.invariant.columns is.is_table) c.index-table.ensures in
    let sorted = c.sort_rows.new.rows.items in
    let moved = subst (λ xs. IsPermutation xs sorted) (c.in_ok-rows.ensures ∙ ap (λ rs. filter (lies_among q.column rs) c.index-table.result.now.now.rows) c.as_slice.ensures) c.in_ok-sort_rows.ensures.permutation in
    subst (λ (w : StoreView). IsSomeAnd (slice_get (shapes_of w.schema) q.table) (λ (t : TableShape). AllByRecursion (IsRowOf t) sorted)) c.self.view_is
    (asked_fit shapes q is tables c.index-table.result.now c.self.invariant.columns there sorted c.is_sound.ensures moved)

pub returns-clause-few : goal.returns-clause-few
returns-clause-few c =
    let shapes = shapes_of c.self.inside.schema in
    let q = c.args.query.now in
    let is = subst (λ (w : StoreView). IsQuery (shapes_of w.schema) q) (sym c.self.view_is) c.requires in
    let tables = c.self.inside.tables.items in
    let there = at_slice tables q.table c.index-table.result.now (within tables shapes q.table is.table c.self.invariant.columns is.is_table) c.index-table.ensures in
    let sorted = c.sort_rows.new.rows.items in
    let moved = subst (λ xs. IsPermutation xs sorted) (c.in_ok-rows.ensures ∙ ap (λ rs. filter (lies_among q.column rs) c.index-table.result.now.now.rows) c.as_slice.ensures) c.in_ok-sort_rows.ensures.permutation in
    asked_few shapes q is tables c.index-table.result.now c.self.invariant.columns there sorted c.is_sound.ensures moved
