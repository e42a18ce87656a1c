-- What is counted is right after a row has come, changed or gone.
use Rattle.std.proofs.Common.{◌≡◌, ℕ, zero, suc, ◌+◌, ◌≤◌, ◌==◌, ◌++◌, ℤ, List, [], ◌∷◌, Bool, true, false, cond, Option, Some, None, refl, sym, ap, subst, arith}
use Rattle.std.specs.Prelude.{IfSome, option_map, set, slice_get, unwrap_or}
use Rattle.std.specs.Bool.{Decides}
use Rattle.std.specs.List.{find}
use Rattle.std.proofs.lemmas.Bool.Decides.{Decides-eqb}
use Rattle.fx_types.specs.Values.{Data}
use Rattle.fx_core.specs.declared.schema.TableShape.{TableShape}
use Rattle.number_bags.specs.Rising.{AreSame, one_of, times}
use Rattle.row_queries.specs.TableRows.{AreInIdOrder, values_of}
use Rattle.row_queries.specs.declared.rows.Row.{Row}
use Rattle.row_keeper.specs.Tables.{AreStatesOf, IsStateOf, TableState, Tables, has_id, no_rows, state_at, with_cells, with_row, with_state, without_row}
use Rattle.row_books.specs.Numbers.{IsChangedAt, changed, column_in, number_at, numbers_of, row_number}
use Rattle.row_counts.specs.Columns.{column_of}
use Rattle.row_counts.specs.Right.{AreOf}
use Rattle.row_counts.proofs.ColumnLemmas.{cell_number, cell_of, changed_same, column_push, removed, replaced, there_enough}
use Rattle.row_books.proofs.Places.{got_other, got_same}

-- ---- the table at a place, after one is written
pub states_there : (shapes : List TableShape) (states : List TableState) (k : ℕ) (t : TableShape) → AreStatesOf shapes states → slice_get shapes k ≡ Some t → (s : TableState) × (slice_get states k ≡ Some s) × IsStateOf t s
states_there [] states k t a e = absurd cc
states_there (u ∷ us) [] k t a e = absurd a
states_there (u ∷ us) (s ∷ ss) zero t a e = let same : u ≡ t = cc in (s, refl, subst (λ (w : TableShape). IsStateOf w s) same a.0)
states_there (u ∷ us) (s ∷ ss) (suc k) t a e = states_there us ss k t a.1 e

pub state_there : (shapes : List TableShape) (t : Tables) (k : ℕ) (shape : TableShape) → AreStatesOf shapes t.states → slice_get shapes k ≡ Some shape → IsStateOf shape (state_at t.states k)
state_there shapes t k shape a e =
    let s = states_there shapes t.states k shape a e in
    subst (λ o. IsStateOf shape (unwrap_or o no_rows)) (sym s.1) s.2

pub state_written : (states : List TableState) (k : ℕ) (s old : TableState) → slice_get states k ≡ Some old → state_at (set states k s) k ≡ s
state_written states k s old e = ap (λ o. unwrap_or o no_rows) (got_same states k s old e)

pub state_beside : (states : List TableState) (k j : ℕ) (s : TableState) → (j ≡ k → ⊥) → state_at (set states k s) j ≡ state_at states j
state_beside states k j s n = ap (λ o. unwrap_or o no_rows) (got_other states k j s n)

-- ---- one table changed, with what is counted of it
-- in each column one number goes, which is there, and one comes
pub record RowChanges (out put : List (Option ℤ)) (old new : List Row) : Type 0 where
  pub there : (j : ℕ) (q : ℤ) → times q (one_of (number_at out j)) ≤ times q (column_of old j)
  pub same : (j : ℕ) (q : ℤ) → times q (one_of (number_at out j)) + times q (column_of new j) ≡ times q (one_of (number_at put j)) + times q (column_of old j)

pub column_right : (out put : List (Option ℤ)) (old new : List Row) → RowChanges out put old new → (j : ℕ) (o : Option (List ℤ)) → IfSome o (λ zs. AreSame zs (column_of old j))
    → IfSome (option_map (changed (number_at out j) (number_at put j)) o) (λ zs. AreSame zs (column_of new j))
column_right out put old new rows j None h = tt
column_right out put old new rows j (Some zs) h = changed_same (number_at out j) (number_at put j) zs (column_of old j) (column_of new j) h (rows.there j) (rows.same j)

pub changed_right : (table : ℕ) (out put : List (Option ℤ)) (old new : List (List (List ℤ))) (a : Tables) (s before : TableState) → slice_get a.states table ≡ Some before → IsChangedAt table out put old new
    → RowChanges out put (state_at a.states table).rows s.rows → AreOf old a → AreOf new (with_state a table s)
changed_right table out put old new a s before there changes rows right t j = go (t == table) (Decides-eqb t table) (changes t j)
  where
    go : (b : Bool) → Decides b (t ≡ table) → column_in new t j ≡ cond b (option_map (changed (number_at out j) (number_at put j)) (column_in old t j)) (column_in old t j)
        → IfSome (column_in new t j) (λ zs. AreSame zs (column_of (state_at (set a.states table s) t).rows j))
    go false d e =
        let beside : state_at (set a.states table s) t ≡ state_at a.states t = state_beside a.states table t s (λ f. let g = d.1 f in cc) in
        subst (λ (w : TableState). IfSome (column_in new t j) (λ zs. AreSame zs (column_of w.rows j))) (sym beside)
        (subst (λ o. IfSome o (λ zs. AreSame zs (column_of (state_at a.states t).rows j))) (sym e) (right t j))
    go true d e =
        let here : t ≡ table = d.0 refl in
        let written : state_at (set a.states table s) t ≡ s = subst (λ k. state_at (set a.states table s) k ≡ s) (sym here) (state_written a.states table s before there) in
        subst (λ (w : TableState). IfSome (column_in new t j) (λ zs. AreSame zs (column_of w.rows j))) (sym written)
        (subst (λ o. IfSome o (λ zs. AreSame zs (column_of s.rows j))) (sym e)
        (column_right out put (state_at a.states table).rows s.rows rows j (column_in old t j) (subst (λ k. IfSome (column_in old t j) (λ zs. AreSame zs (column_of (state_at a.states k).rows j))) here (right t j))))

-- ---- the three changes of rows
-- the number of a row in a column, by those in its cells
pub put_number : (id : ℕ) (cells : List Data) (j : ℕ) → number_at (Some (row_number id) ∷ numbers_of cells) j ≡ cell_of j (record { id = id; cells = cells })
put_number id cells zero = refl
put_number id cells (suc k) = cell_number cells k

none_out : (j : ℕ) → number_at (None ∷ []) j ≡ None
none_out zero = refl
none_out (suc k) = refl

pub row_added : (row : Row) (rows : List Row) → RowChanges (None ∷ []) (Some (row_number row.id) ∷ numbers_of row.cells) rows (rows ++ row ∷ [])
row_added row rows = record {
  there = λ j q. let a = ap (λ o. times q (one_of o)) (none_out j) in omega (arith, a);
  same = λ j q.
      let a = ap (λ o. times q (one_of o)) (none_out j) in
      let b = ap (λ o. times q (one_of o)) (put_number row.id row.cells j) in
      let c = column_push q j rows row in
      omega (arith, a, b, c);
}

pub row_comes : (cells : List Data) (s : TableState) → RowChanges (None ∷ []) (Some (row_number (s.last + 1)) ∷ numbers_of cells) s.rows (with_row cells s).rows
row_comes cells s = row_added (record { id = s.last + 1; cells = cells }) s.rows

-- the numbers of a row are by columns those of its values
pub row_numbers : (row : Row) (j : ℕ) → number_at (numbers_of (values_of row)) j ≡ cell_of j row
row_numbers row zero = refl
row_numbers row (suc k) = cell_number row.cells k

pub row_goes : (id : ℕ) (row : Row) (s : TableState) → AreInIdOrder s.rows → find (has_id id) s.rows ≡ Some row → RowChanges (numbers_of (values_of row)) (None ∷ []) s.rows (without_row id s).rows
row_goes id row s o f = record {
  there = λ j q. subst (λ n. times q (one_of n) ≤ times q (column_of s.rows j)) (sym (row_numbers row j)) (there_enough q j id s.rows row o f);
  same = λ j q.
      let a = ap (λ n. times q (one_of n)) (none_out j) in
      let b = ap (λ n. times q (one_of n)) (row_numbers row j) in
      let c = removed q j id s.rows row o f in
      omega (arith, a, b, c);
}

-- a row that changes keeps its number
pub row_changes : (id : ℕ) (cells : List Data) (row : Row) (s : TableState) → AreInIdOrder s.rows → find (has_id id) s.rows ≡ Some row
    → RowChanges (None ∷ numbers_of row.cells) (None ∷ numbers_of cells) s.rows (with_cells id cells s).rows
row_changes id cells row s o f = record {
  there = λ j q. less j q (there_enough q j id s.rows row o f);
  same = λ j q. both j q (replaced q j id cells s.rows row o f);
}
  where
    less : (j : ℕ) (q : ℤ) → times q (one_of (cell_of j row)) ≤ times q (column_of s.rows j) → times q (one_of (number_at (None ∷ numbers_of row.cells) j)) ≤ times q (column_of s.rows j)
    less zero q h = omega arith
    less (suc k) q h = subst (λ n. times q (one_of n) ≤ times q (column_of s.rows (suc k))) (sym (cell_number row.cells k)) h

    both : (j : ℕ) (q : ℤ) → times q (one_of (cell_of j row)) + times q (column_of (with_cells id cells s).rows j) ≡ times q (one_of (cell_of j (record { id = row.id; cells = cells }))) + times q (column_of s.rows j)
        → times q (one_of (number_at (None ∷ numbers_of row.cells) j)) + times q (column_of (with_cells id cells s).rows j) ≡ times q (one_of (number_at (None ∷ numbers_of cells) j)) + times q (column_of s.rows j)
    both zero q h = omega (arith, h)
    both (suc k) q h =
        let a = ap (λ n. times q (one_of n)) (cell_number row.cells k) in
        let b = ap (λ n. times q (one_of n)) (cell_number cells k) in
        omega (arith, a, b, h)
