use Rattle.std.proofs.Common.{◌∙◌, ◌+◌, ◌++◌, ◌∷◌, ◌≤◌, [], ap, arith, drop, map, refl, subst, sym, take}
use Rattle.std.proofs.lemmas.List.{map_more}
use Rattle.row_queries.specs.TableRows.{AreCellsOf, IsBelowAll}
use Rattle.row_queries.specs.declared.rows.Row.{Row}
use Rattle.row_keeper.specs.MovedTables.{moved_cell, moved_row}
use Rattle.row_keeper.specs.TableView.{TableView}
use Rattle.row_keeper.specs.Tables.{TableState}
use Rattle.row_keeper.proofs.MovedLemmas.{all_at, below_at, below_next, taken_few}
use Rattle.row_keeper.proofs.RuleLemmas.{at_slice}
use Rattle.row_keeper.proofs.moved.add_rows.Goals as goal

pub loop-row-init : goal.loop-row-init
loop-row-init c = record {
  columns = refl;
  rows = ap (λ (s : TableState). s.rows) c.requires.empty;
  above = subst (λ (s : TableState). IsBelowAll s.last c.args.rows.now) (sym c.requires.empty) c.requires.rising.0;
  last = λ n h. subst (λ (s : TableState). s.last ≤ n) (sym c.requires.empty) (omega arith);
}

pub add_row-requires-clause-fit : goal.add_row-requires-clause-fit
add_row-requires-clause-fit c =
    let there = at_slice c.args.rows.now c.loop-row.row-index c.row-item.result c.loop-row-test.true c.row-item.is in
    subst (λ cs. AreCellsOf cs (map (moved_cell c.row-item.result) c.args.from.now)) (sym c.loop-row.invariant.columns)
    (all_at (λ (r : Row). AreCellsOf c.args.table.now.columns (map (moved_cell r) c.args.from.now)) c.args.rows.now c.loop-row.row-index c.row-item.result c.requires.fit there)

pub add_row-requires-clause-above : goal.add_row-requires-clause-above
add_row-requires-clause-above c =
    below_at c.loop-row.table.now.last c.args.rows.now c.loop-row.row-index c.row-item.result c.loop-row.invariant.above
    (at_slice c.args.rows.now c.loop-row.row-index c.row-item.result c.loop-row-test.true c.row-item.is)

pub add_row-requires-clause-few : goal.add_row-requires-clause-few
add_row-requires-clause-few c = taken_few (moved_row c.args.from.now) c.args.rows.now c.loop-row.row-index c.loop-row.table.now.rows c.loop-row.invariant.rows c.loop-row-test.true c.requires.few

pub loop-row-preserved : goal.loop-row-preserved
loop-row-preserved c =
    let rows = c.args.rows.now in
    let i = c.loop-row.row-index in
    let r = c.row-item.result in
    let f = moved_row c.args.from.now in
    let there = at_slice rows i r c.loop-row-test.true c.row-item.is in
    record {
      columns = ap (λ (t : TableView). t.columns) c.in_ok-add_row.ensures ∙ c.loop-row.invariant.columns;
      rows = ap (λ (t : TableView). t.now.rows) c.in_ok-add_row.ensures ∙ ap (λ l. l ++ f r ∷ []) c.loop-row.invariant.rows ∙ ap (λ x. map f (take i rows) ++ f x ∷ []) c.row-item.is ∙ sym (map_more f rows i r c.loop-row-test.true);
      above = subst (λ (t : TableView). IsBelowAll t.now.last (drop (i + 1) rows)) (sym c.in_ok-add_row.ensures) (below_next rows i r c.requires.rising.1 there);
      last = λ n h. subst (λ (t : TableView). t.now.last ≤ n) (sym c.in_ok-add_row.ensures) (all_at (λ (x : Row). x.id ≤ n) rows i r h there);
    }
