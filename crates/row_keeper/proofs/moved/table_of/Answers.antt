use Rattle.std.proofs.Common.{◌≡◌, ◌≤◌, ◌∙◌, ap, arith, map, max, subst, sym}
use Rattle.std.specs.List.{AllByRecursion}
use Rattle.row_queries.specs.TableRows.{AreCellsOf}
use Rattle.row_queries.specs.declared.rows.Row.{Row}
use Rattle.row_keeper.specs.MovedTables.{moved_cell}
use Rattle.row_keeper.specs.TableView.{TableView}
use Rattle.row_keeper.proofs.moved.table_of.Goals as goal

pub add_rows-requires-clause-fit : goal.add_rows-requires-clause-fit
add_rows-requires-clause-fit c =
    subst (λ (t : TableView). AllByRecursion (λ (r : Row). AreCellsOf t.columns (map (moved_cell r) c.args.from.now)) c.args.rows.now) (sym c.in_ok-table.ensures) c.requires.fit

pub returns-clause-now : goal.returns-clause-now
returns-clause-now c =
    let below : c.add_rows.new.table.now.last ≤ c.args.last = c.in_ok-add_rows.ensures.last c.args.last c.requires.given in
    let number : max c.add_rows.new.table.now.last c.args.last ≡ c.args.last = omega (arith, below) in
    ap (λ (t : TableView). t.now) c.skip_to.ensures ∙ (λ k. record { rows = c.in_ok-add_rows.ensures.rows k; last = number k })
