-- Tables that have moved fit their new schema.
use Rattle.std.proofs.Common.{◌≡◌, ℕ, zero, suc, ◌<◌, ◌≤◌, List, [], ◌∷◌, map, Option, Some, None, refl, sym, ap, subst, arith}
use Rattle.std.specs.Prelude.{IsSome, slice_get, unwrap_or}
use Rattle.std.specs.List.{AllByRecursion}
use Rattle.std.proofs.lemmas.List.Elements.{All-from_recursion, recursion_from_All}
use Rattle.fx_core.specs.declared.schema.Column.{Column}
use Rattle.fx_core.specs.declared.schema.TableShape.{TableShape}
use Rattle.row_queries.specs.TableRows.{AreCellsOf, AreInIdOrder, IsBelowAll, IsRowOf}
use Rattle.row_queries.specs.declared.rows.Row.{Row}
use Rattle.row_keeper.specs.Kept.{columns_shaped}
use Rattle.row_keeper.specs.MovedTables.{AreMovesOf, AreSources, IsFrom, IsMove, columns_from, moved_by, moved_cell, moved_from, moved_row, moved_state}
use Rattle.row_keeper.specs.Tables.{AreStatesOf, IsStateOf, TableState, state_at}
use Rattle.row_keeper.specs.declared.moves.TableMove.{TableMove}
use Rattle.row_keeper.proofs.MovedLemmas.{shape_rows_fit}

rows_moved : (old new : TableShape) (columns : List (Option ℕ)) (rows : List Row) → AllByRecursion (IsRowOf old) rows → AllByRecursion (λ (r : Row). AreCellsOf new.columns (map (moved_cell r) columns)) rows → AllByRecursion (IsRowOf new) (map (moved_row columns) rows)
rows_moved old new columns [] h c = tt
rows_moved old new columns (r ∷ rs) h c = ((h.0.0, c.0), rows_moved old new columns rs h.1 c.1)

below_moved : (columns : List (Option ℕ)) (n : ℕ) (rows : List Row) → IsBelowAll n rows → IsBelowAll n (map (moved_row columns) rows)
below_moved columns n [] h = tt
below_moved columns n (r ∷ rs) h = (h.0, below_moved columns n rs h.1)

rising_moved : (columns : List (Option ℕ)) (rows : List Row) → AreInIdOrder rows → AreInIdOrder (map (moved_row columns) rows)
rising_moved columns [] h = tt
rising_moved columns (r ∷ rs) h = (below_moved columns r.id rs h.0, rising_moved columns rs h.1)

given_moved : (columns : List (Option ℕ)) (n : ℕ) (rows : List Row) → AllByRecursion (λ (r : Row). r.id ≤ n) rows → AllByRecursion (λ (r : Row). r.id ≤ n) (map (moved_row columns) rows)
given_moved columns n [] h = tt
given_moved columns n (r ∷ rs) h = (h.0, given_moved columns n rs h.1)

state_moved : (old new : TableShape) (columns : List (Option ℕ)) (s : TableState) → AreSources old.columns new.columns columns → IsStateOf old s → IsStateOf new (moved_from columns s)
state_moved old new columns s sources h =
    let rows : AllByRecursion (IsRowOf old) s.rows = recursion_from_All (IsRowOf old) s.rows h.fit in
    let cells = shape_rows_fit old new.columns columns sources s.rows rows in
    let given : AllByRecursion (λ (r : Row). r.id ≤ s.last) s.rows = recursion_from_All (λ (r : Row). r.id ≤ s.last) s.rows h.given in
    record {
      fit = All-from_recursion (IsRowOf new) (map (moved_row columns) s.rows) (rows_moved old new columns s.rows rows cells);
      rising = rising_moved columns s.rows h.rising;
      given = All-from_recursion (λ (r : Row). r.id ≤ s.last) (map (moved_row columns) s.rows) (given_moved columns s.last s.rows given);
      bounded = h.bounded;
    }

no_rows_fit : (t : TableShape) (states : List TableState) (columns : List (Option ℕ)) → IsStateOf t (moved_by states columns None)
no_rows_fit t states columns = record {
  fit = All-from_recursion (IsRowOf t) [] tt;
  rising = tt;
  given = All-from_recursion (λ (r : Row). r.id ≤ 0) [] tt;
  bounded = omega arith;
}

-- the table that is at a place, with its columns
record IsThere (olds : List TableShape) (states : List TableState) (k : ℕ) : Type 0 where
  old : TableShape
  columns : slice_get (columns_shaped olds) k ≡ Some old.columns
  state : IsStateOf old (state_at states k)

there : (olds : List TableShape) (states : List TableState) (k : ℕ) → AreStatesOf olds states → IsSome (slice_get (columns_shaped olds) k) → IsThere olds states k
there [] states k h s = absurd cc
there (o ∷ os) [] k h s = absurd h
there (o ∷ os) (x ∷ xs) zero h s = record { old = o; columns = refl; state = h.0 }
there (o ∷ os) (x ∷ xs) (suc k) h s = let t = there os xs k h.1 s in record { old = t.old; columns = t.columns; state = t.state }

one_fits : (olds : List TableShape) (states : List TableState) (t : TableShape) (columns : List (Option ℕ)) (from : Option ℕ) → AreStatesOf olds states → IsFrom (columns_shaped olds) from → AreSources (columns_from (columns_shaped olds) from) t.columns columns → IsStateOf t (moved_by states columns from)
one_fits olds states t columns None h f s = no_rows_fit t states columns
one_fits olds states t columns (Some k) h f s =
    let a = there olds states k h f in
    state_moved a.old t columns (state_at states k) (subst (λ (o : Option (List Column)). AreSources (unwrap_or o []) t.columns columns) a.columns s) a.state

pub each_fits : (olds : List TableShape) (states : List TableState) (news : List TableShape) (moves : List TableMove) → AreStatesOf olds states → AreMovesOf (columns_shaped olds) news moves → AreStatesOf news (map (moved_state states) moves)
each_fits olds states [] [] h m = tt
each_fits olds states [] (x ∷ xs) h m = absurd m
each_fits olds states (t ∷ ts) [] h m = absurd m
each_fits olds states (t ∷ ts) (x ∷ xs) h m = (one_fits olds states t x.columns x.from h m.0.from m.0.sources, each_fits olds states ts xs h m.1)
