-- Tables that move: their cells fit the new columns, and the first rule that a row breaks is found row by row and table by table.
use Rattle.std.proofs.Common.{◌≡◌, ℕ, zero, suc, ◌+◌, ◌<◌, ◌≤◌, true, List, [], ◌∷◌, map, length, drop, get_or, take, refl, sym, ap, arith, Option, None, Some, subst}
use Rattle.std.specs.Prelude.{IsSome, IsSomeAnd, option_map, slice_get, unwrap_or}
use Rattle.std.specs.List.{AllByRecursion}
use Rattle.fx_types.specs.TypeView.{shape}
use Rattle.fx_types.specs.Values.{Data, blank}
use Rattle.fx_types.specs.declared.types.Ty.{Ty}
use Rattle.fx_core.specs.declared.schema.Column.{Column}
use Rattle.fx_core.specs.declared.schema.TableShape.{TableShape}
use Rattle.fx_value.specs.Fits.{fits_in}
use Rattle.fx_value.specs.Order.{IsScalar}
use Rattle.row_queries.specs.TableRows.{AreCellsOf, AreInIdOrder, IsBelowAll, IsRowOf}
use Rattle.row_queries.specs.declared.rows.Row.{Row}
use Rattle.row_keeper.specs.Kept.{columns_kept}
use Rattle.row_keeper.specs.MovedTables.{AreMovesOf, AreSources, IsMove, IsSource, broken_row, broken_table, columns_from, first_table, moved_cell}
use Rattle.row_keeper.specs.RowRules.{first_of_two, rule_in}
use Rattle.row_keeper.specs.Sound.{IsSoundRow}
use Rattle.row_keeper.specs.TableView.{TableView, states_now}
use Rattle.row_keeper.specs.Tables.{TableState, no_rows, state_at}
use Rattle.row_keeper.specs.declared.moves.TableMove.{TableMove}
use Rattle.row_keeper.proofs.RuleLemmas.{next_of}
use Rattle.row_keeper.proofs.StoreLemmas.{at_map}

-- ---- cells that move fit their columns
abbrev FitsAs : Ty → Data → Type 0
FitsAs t d = IsScalar d × (fits_in d (shape t) ≡ true)

fits_there : (olds : List Column) (cells : List Data) (k : ℕ) (d : Column) → AreCellsOf olds cells → slice_get olds k ≡ Some d → FitsAs d.ty (unwrap_or (slice_get cells k) blank)
fits_there [] cells k d h e = absurd cc
fits_there (c ∷ cs) [] k d h e = absurd h
fits_there (c ∷ cs) (x ∷ xs) zero d h e = let q : c ≡ d = cc in subst (λ (z : Column). FitsAs z.ty x) q (h.0, h.1)
fits_there (c ∷ cs) (x ∷ xs) (suc k) d h e = fits_there cs xs k d h.2 e

cell_fits : (olds : List Column) (c : Column) (from : Option ℕ) (r : Row) → IsSource olds c from → AreCellsOf olds r.cells → FitsAs c.ty (moved_cell r from)
cell_fits olds c None r s h = (tt, refl)
cell_fits olds c (Some zero) r s h = absurd s
cell_fits olds c (Some (suc k)) r s h = at (slice_get olds k) refl s
  where
    at : (o : Option Column) → slice_get olds k ≡ o → IsSomeAnd o (λ (d : Column). d.ty ≡ c.ty) → FitsAs c.ty (unwrap_or (slice_get r.cells k) blank)
    at None e q = absurd q
    at (Some d) e q = subst (λ t. FitsAs t (unwrap_or (slice_get r.cells k) blank)) q (fits_there olds r.cells k d h e)

cells_fit : (olds news : List Column) (from : List (Option ℕ)) (r : Row) → AreSources olds news from → AreCellsOf olds r.cells → AreCellsOf news (map (moved_cell r) from)
cells_fit olds [] [] r s h = tt
cells_fit olds [] (m ∷ ms) r s h = absurd s
cells_fit olds (c ∷ cs) [] r s h = absurd s
cells_fit olds (c ∷ cs) (m ∷ ms) r s h = let one = cell_fits olds c m r s.0 h in (one.0, one.1, cells_fit olds cs ms r s.1 h)

pub rows_fit : (olds news : List Column) (from : List (Option ℕ)) → AreSources olds news from → (rows : List Row) → AllByRecursion (IsSoundRow olds) rows → AllByRecursion (λ (r : Row). AreCellsOf news (map (moved_cell r) from)) rows
rows_fit olds news from s [] h = tt
rows_fit olds news from s (r ∷ rs) h = (cells_fit olds news from r s h.0.fit, rows_fit olds news from s rs h.1)

-- and so do those of rows of a table that are seen by its shape
pub shape_rows_fit : (t : TableShape) (news : List Column) (from : List (Option ℕ)) → AreSources t.columns news from → (rows : List Row) → AllByRecursion (IsRowOf t) rows → AllByRecursion (λ (r : Row). AreCellsOf news (map (moved_cell r) from)) rows
shape_rows_fit t news from s [] h = tt
shape_rows_fit t news from s (r ∷ rs) h = (cells_fit t.columns news from r s h.0.1, shape_rows_fit t news from s rs h.1)

-- ---- rows in the order of their numbers
pub from_one : (olds : List Column) (rows : List Row) → AllByRecursion (IsSoundRow olds) rows → IsBelowAll 0 rows
from_one olds [] h = tt
from_one olds (r ∷ rs) h = (let q = h.0.id in omega (arith, q), from_one olds rs h.1)

pub shape_from_one : (t : TableShape) (rows : List Row) → AllByRecursion (IsRowOf t) rows → IsBelowAll 0 rows
shape_from_one t [] h = tt
shape_from_one t (r ∷ rs) h = (let q = h.0.0 in omega (arith, q), shape_from_one t rs h.1)

pub all_at : {X : Type 0} (P : X → Type 0) (xs : List X) (i : ℕ) (x : X) → AllByRecursion P xs → slice_get xs i ≡ Some x → P x
all_at P [] i x h e = absurd cc
all_at P (y ∷ ys) zero x h e = let q : y ≡ x = cc in subst P q h.0
all_at P (y ∷ ys) (suc i) x h e = all_at P ys i x h.1 e

pub at_some : {X : Type 0} (P : X → Type 0) (xs : List X) (i : ℕ) (x : X) → IsSomeAnd (slice_get xs i) P → x ≡ get_or xs i x → slice_get xs i ≡ Some x
at_some P [] i x h e = absurd h
at_some P (y ∷ ys) zero x h e = ap (λ z. Some z) (sym e)
at_some P (y ∷ ys) (suc i) x h e = at_some P ys i x h e

pub below_at : (n : ℕ) (rows : List Row) (i : ℕ) (r : Row) → IsBelowAll n (drop i rows) → slice_get rows i ≡ Some r → n < r.id
below_at n rows i r h e = let q = subst (IsBelowAll n) (next_of rows i r e) h in q.0

pub below_next : (rows : List Row) (i : ℕ) (r : Row) → AreInIdOrder rows → slice_get rows i ≡ Some r → IsBelowAll r.id (drop (i + 1) rows)
below_next [] i r h e = absurd cc
below_next (x ∷ xs) zero r h e = let q : x ≡ r = cc in subst (λ (y : Row). IsBelowAll y.id xs) q h.0
below_next (x ∷ xs) (suc i) r h e = subst (λ n. IsBelowAll r.id (drop n (x ∷ xs))) (let q : suc (i + 1) ≡ suc i + 1 = omega arith in q) (below_next xs i r h.1 e)

pub taken_few : {Y : Type 0} (f : Row → Y) (rows : List Row) (i : ℕ) (made : List Y) → made ≡ map f (take i rows) → i < length rows → length rows ≤ 200000 → length made < 200000
taken_few f rows i made e l few = let q = ap length e in let t = taken rows i in omega (arith, q, t, l, few)
  where
    taken : (xs : List Row) (n : ℕ) → length (map f (take n xs)) ≤ n
    taken [] zero = omega arith
    taken [] (suc n) = omega arith
    taken (x ∷ xs) zero = omega arith
    taken (x ∷ xs) (suc n) = let q = taken xs n in omega (arith, q)

-- ---- the moves of tables
pub as_many : (olds : List (List Column)) (news : List TableShape) (moves : List TableMove) → AreMovesOf olds news moves → length news ≡ length moves
as_many olds [] [] h = refl
as_many olds [] (m ∷ ms) h = absurd h
as_many olds (t ∷ ts) [] h = absurd h
as_many olds (t ∷ ts) (m ∷ ms) h = ap suc (as_many olds ts ms h.1)

pub move_at : (olds : List (List Column)) (news : List TableShape) (moves : List TableMove) (i : ℕ) (t : TableShape) (m : TableMove) → AreMovesOf olds news moves → slice_get news i ≡ Some t → slice_get moves i ≡ Some m → IsMove olds t m
move_at olds [] moves i t m h a b = absurd cc
move_at olds (x ∷ xs) [] i t m h a b = absurd h
move_at olds (x ∷ xs) (y ∷ ys) zero t m h a b = let p : x ≡ t = cc in let q : y ≡ m = cc in subst (λ (z : TableMove). IsMove olds t z) q (subst (λ (z : TableShape). IsMove olds z y) p h.0)
move_at olds (x ∷ xs) (y ∷ ys) (suc i) t m h a b = move_at olds xs ys i t m h.1 a b

-- the table from which one comes
pub source_at : (tables : List TableView) (k : ℕ) (news : List Column) (from : List (Option ℕ)) → IsSome (slice_get (columns_kept tables) k) → AreSources (columns_from (columns_kept tables) (Some k)) news from → IsSomeAnd (slice_get tables k) (λ (t : TableView). AreSources t.columns news from)
source_at [] k news from h s = absurd cc
source_at (t ∷ ts) zero news from h s = s
source_at (t ∷ ts) (suc k) news from h s = source_at ts k news from h s

pub source_state : (tables : List TableView) (k : ℕ) (v : TableView) → slice_get tables k ≡ Some v → state_at (states_now tables) k ≡ v.now
source_state tables k v h = ap (λ (o : Option TableState). unwrap_or o no_rows) (at_map (λ (t : TableView). t.now) tables k v h)

-- ---- the first rule that breaks
pub broken_here : (columns : List Column) (s : TableState) (rows : List Row) (i : ℕ) (r : Row) → slice_get rows i ≡ Some r
    → broken_row columns s (drop i rows) ≡ first_of_two (rule_in columns s 0 (Some r.id) r.cells) (broken_row columns s (drop (i + 1) rows))
broken_here columns s rows i r e = ap (broken_row columns s) (next_of rows i r e)

pub table_here : (tables : List TableView) (i : ℕ) (t : TableView) → slice_get tables i ≡ Some t
    → broken_table i (columns_kept (drop i tables)) (states_now (drop i tables))
    ≡ first_table (option_map (λ r. (i, r)) (broken_row t.columns t.now t.now.rows)) (broken_table (i + 1) (columns_kept (drop (i + 1) tables)) (states_now (drop (i + 1) tables)))
table_here tables i t e = ap (λ l. broken_table i (columns_kept l) (states_now l)) (next_of tables i t e)
