-- The tables that are told are ones of their shapes.
use Rattle.std.proofs.Common.{◌≡◌, ℕ, suc, ◌<◌, ◌≤◌, List, [], ◌∷◌, map}
use Rattle.std.specs.List.{AllByRecursion}
use Rattle.std.proofs.lemmas.List.Elements.{All-from_recursion}
use Rattle.fx_core.specs.declared.schema.Column.{Column}
use Rattle.fx_core.specs.declared.schema.TableShape.{TableShape}
use Rattle.sqlite.specs.Tree.{Trees}
use Rattle.sqlite_trees.specs.Tree.{IsAscending}
use Rattle.sqlite_keyed.proofs.ListLemmas.{all_map, all_weaker}
use Rattle.sql_meanings.specs.Lines.{LinesOf}
use Rattle.sql_contents.specs.Contents.{contents_of, lines_in}
use Rattle.row_queries.specs.TableRows.{AreInIdOrder, IsBelowAll, IsRowOf}
use Rattle.row_queries.specs.declared.rows.Row.{Row}
use Rattle.row_keeper.specs.Tables.{AreStatesOf, IsStateOf}
use Rattle.row_changes.specs.Overlay.{last_of, overlay}
use Rattle.row_changes.specs.declared.table.TableChanges.{TableChanges}
use Rattle.row_changes.proofs.OverlayLemmas.{overlay_given, overlay_rising}
use Rattle.row_plan.specs.Written.{AreOfTables}
use Rattle.store_model.specs.Decoded.{row_in, state_in, states_now}
use Rattle.store_model.specs.Steady.{AreLinesOf, HaveRows, IsLineOf}

rows_fit : (t : TableShape) (xs : LinesOf) → AreLinesOf t.columns xs → AllByRecursion (IsRowOf t) (map (row_in t.columns) xs)
rows_fit t xs h = all_map (IsRowOf t) (row_in t.columns) xs (all_weaker (IsLineOf t.columns) (λ (x : ℕ × List ℕ). IsRowOf t (row_in t.columns x)) (λ x l. (l.id, l.fit)) xs h)

below_rows : (n : ℕ) (columns : List Column) (xs : LinesOf) → AllByRecursion (λ (x : ℕ × List ℕ). n < x.0) xs → IsBelowAll n (map (row_in columns) xs)
below_rows n columns [] h = tt
below_rows n columns (x ∷ xs) h = (h.0, below_rows n columns xs h.1)

pub order_rows : (columns : List Column) (xs : LinesOf) → IsAscending (λ (a b : ℕ × List ℕ). a.0 < b.0) xs → AreInIdOrder (map (row_in columns) xs)
order_rows columns [] h = tt
order_rows columns (x ∷ xs) h = (below_rows x.0 columns xs h.0, order_rows columns xs h.1)

given_rows : (n : ℕ) (columns : List Column) (xs : LinesOf) → AllByRecursion (λ (x : ℕ × List ℕ). x.0 ≤ n) xs → AllByRecursion (λ (r : Row). r.id ≤ n) (map (row_in columns) xs)
given_rows n columns xs h = all_map (λ (r : Row). r.id ≤ n) (row_in columns) xs h

pub are_states : (trees : Trees) (tab : ℕ) (ts : List TableShape) (cs : List TableChanges) → AreOfTables (contents_of trees) tab ts cs → HaveRows (contents_of trees) tab ts cs → AreStatesOf ts (states_now trees tab ts cs)
are_states trees tab [] [] was rows = tt
are_states trees tab [] (c ∷ cs) was rows = absurd was
are_states trees tab (t ∷ ts) [] was rows = absurd was
are_states trees tab (t ∷ ts) (c ∷ cs) was rows =
    let xs = overlay c (lines_in trees tab) in
    let one : IsStateOf t (state_in t.columns xs (last_of c)) = record {
      fit = All-from_recursion (IsRowOf t) (map (row_in t.columns) xs) (rows_fit t xs rows.0.now);
      rising = order_rows t.columns xs (overlay_rising c (lines_in trees tab) was.0.changes);
      given = All-from_recursion (λ (r : Row). r.id ≤ last_of c) (map (row_in t.columns) xs) (given_rows (last_of c) t.columns xs (overlay_given c (lines_in trees tab) was.0.changes));
      bounded = c.bounded;
    } in
    (one, are_states trees (suc tab) ts cs was.1 rows.1)
