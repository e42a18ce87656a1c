-- The numbers in the columns of rows, where a row comes, changes or goes.
use Rattle.std.proofs.Common.{◌≡◌, ℕ, zero, suc, ◌+◌, ◌*◌, ◌/◌, ◌^◌, ◌<◌, ◌≤◌, ◌==◌, ◌++◌, ℤ, pos, List, [], ◌∷◌, map, filter, Bool, true, false, not, cond, ◌||◌, Option, Some, None, refl, sym, ap, ap₂, subst, ◌∙◌, arith}
use Rattle.std.specs.Prelude.{slice_get, unwrap_or}
use Rattle.std.specs.Bool.{Decides}
use Rattle.std.specs.List.{All, cons_option, find, list_any}
use Rattle.std.specs.Ordering.{int_eq}
use Rattle.std.proofs.lemmas.Bool.Decides.{Decides-eqb, Decides-int_eq}
use Rattle.std.proofs.lemmas.List.Elements.{All-head, All-tail}
use Rattle.fx_types.specs.Values.{Data, blank}
use Rattle.fx_value.specs.Aggregates.{number_if_one}
use Rattle.number_bags.specs.Rising.{AreSame, one_of, times, with_option, without_option}
use Rattle.number_bags.proofs.RisingLemmas.{out, times_with_option}
use Rattle.row_queries.specs.TableRows.{AreInIdOrder, IsBelowAll, value_at, values_of}
use Rattle.row_queries.specs.declared.rows.Row.{Row}
use Rattle.row_keeper.specs.Tables.{has_id}
use Rattle.row_counts.specs.Columns.{column_of}
use Rattle.row_counts.specs.Right.{AreRowNumbers, IsRowNumber}
use Rattle.row_books.specs.Numbers.{changed, fresh, numbers_of, row_number}

-- the number of a row in a column
abbrev pub cell_of : ℕ → Row → Option ℤ
cell_of j r = number_if_one (value_at (values_of r) j)

times_cons : (q : ℤ) (o : Option ℤ) (zs : List ℤ) → times q (cons_option o zs) ≡ times q (one_of o) + times q zs
times_cons q None zs = omega arith
times_cons q (Some z) zs = omega arith

pub column_cons : (q : ℤ) (j : ℕ) (r : Row) (rows : List Row) → times q (column_of (r ∷ rows) j) ≡ times q (one_of (cell_of j r)) + times q (column_of rows j)
column_cons q j r rows = times_cons q (cell_of j r) (column_of rows j)

pub column_push : (q : ℤ) (j : ℕ) (rows : List Row) (r : Row) → times q (column_of (rows ++ r ∷ []) j) ≡ times q (one_of (cell_of j r)) + times q (column_of rows j)
column_push q j [] r = column_cons q j r []
column_push q j (s ∷ rows) r = let a = column_cons q j s (rows ++ r ∷ []) in let b = column_push q j rows r in let c = column_cons q j s rows in omega (arith, a, b, c)

-- ---- a number goes from what is counted, and one comes
pub changed_same : (o p : Option ℤ) (zs xs ws : List ℤ) → AreSame zs xs → ((q : ℤ) → times q (one_of o) ≤ times q xs)
    → ((q : ℤ) → times q (one_of o) + times q ws ≡ times q (one_of p) + times q xs) → AreSame (changed o p zs) ws
changed_same None p zs xs ws same there h q = let a = times_with_option q p zs in let b = same q in let c = h q in omega (arith, a, b, c)
changed_same (Some z) p zs xs ws same there h q =
    let l : 0 < times z zs = let a = there z in let b = same z in let c = itself z in omega (arith, a, b, c) in
    let g = (out z zs l).others q in
    let a = times_with_option q p (without_option (Some z) zs) in let b = same q in let c = h q in
    omega (arith, a, b, c, g)
  where
    itself : (z : ℤ) → times z (one_of (Some z)) ≡ 1
    itself z = ap (λ b. cond b 1 0 + 0) (go (int_eq z z) (Decides-int_eq z z))
      where
        go : (b : Bool) → Decides b (z ≡ z) → b ≡ true
        go true d = refl
        go false d = d.1 refl

-- ---- a new row
-- a number that is above those of all rows isn't one of them
pub number_differs : (m n : ℕ) → m < n → int_eq (row_number m) (row_number n) ≡ false
number_differs m n l = go (int_eq (row_number m) (row_number n)) (Decides-int_eq (row_number m) (row_number n))
  where
    back : ℤ → ℕ
    back (pos k) = k
    back z = 0

    go : (b : Bool) → Decides b (row_number m ≡ row_number n) → b ≡ false
    go false d = refl
    go true d = absurd (let e : m * 10000 ≡ n * 10000 = ap back (d.0 refl) in omega (arith, l, e))

pub not_yet : (rows : List Row) (last : ℕ) → All (λ (r : Row). r.id ≤ last) rows → times (row_number (last + 1)) (column_of rows 0) ≡ 0
not_yet [] last h = refl
not_yet (r ∷ rows) last h =
    ap₂ (λ (b : Bool) n. cond b 1 0 + n) (number_differs r.id (last + 1) (let a = All-head (λ (r : Row). r.id ≤ last) r rows h in omega (arith, a))) (not_yet rows last (All-tail (λ (r : Row). r.id ≤ last) r rows h))

pub fresh_is : (z : ℤ) (zs xs : List ℤ) → AreSame zs xs → times z xs ≡ 0 → fresh z zs ≡ Some z
fresh_is z zs xs same h = go (times z zs == 0) (Decides-eqb (times z zs) 0)
  where
    go : (b : Bool) → Decides b (times z zs ≡ 0) → cond b (Some z) None ≡ Some z
    go true d = refl
    go false d = absurd (let e = d.1 (same z ∙ h) in cc)

-- the number of a cell, by its place
pub cell_number : (cells : List Data) (k : ℕ) → unwrap_or (slice_get (numbers_of cells) k) None ≡ number_if_one (unwrap_or (slice_get cells k) blank)
cell_number [] k = refl
cell_number (d ∷ ds) zero = refl
cell_number (d ∷ ds) (suc k) = cell_number ds k

-- ---- a row that is there
same_id : (a b : ℕ) → (a == b) ≡ true → a ≡ b
same_id a b e = go (a == b) (Decides-eqb a b) e
  where
    go : (t : Bool) → Decides t (a ≡ b) → t ≡ true → a ≡ b
    go true d e = d.0 refl
    go false d e = absurd cc

other_id : (m id : ℕ) → id < m → (m == id) ≡ false
other_id m id l = go (m == id) (Decides-eqb m id)
  where
    go : (t : Bool) → Decides t (m ≡ id) → t ≡ false
    go false d = refl
    go true d = absurd (let e : m ≡ id = d.0 refl in omega (arith, l, e))

-- rows behind the one of a number are others
kept_behind : (id : ℕ) (rows : List Row) → IsBelowAll id rows → filter (λ r. not (has_id id r)) rows ≡ rows
kept_behind id [] h = refl
kept_behind id (r ∷ rows) h = ap₂ (λ b l. cond (not b) (r ∷ l) l) (other_id r.id id h.0) (kept_behind id rows h.1)

abbrev pub with_cells_in : ℕ → List Data → Row → Row
with_cells_in id cells r = cond (has_id id r) (record { id = r.id; cells = cells }) r

same_behind : (id : ℕ) (cells : List Data) (rows : List Row) → IsBelowAll id rows → map (with_cells_in id cells) rows ≡ rows
same_behind id cells [] h = refl
same_behind id cells (r ∷ rows) h = ap₂ (λ b (l : List Row). cond b (record { id = r.id; cells = cells }) r ∷ l) (other_id r.id id h.0) (same_behind id cells rows h.1)

pub removed : (q : ℤ) (j id : ℕ) (rows : List Row) (row : Row) → AreInIdOrder rows → find (has_id id) rows ≡ Some row
    → times q (one_of (cell_of j row)) + times q (column_of (filter (λ r. not (has_id id r)) rows) j) ≡ times q (column_of rows j)
removed q j id [] row o h = absurd cc
removed q j id (r ∷ rows) row o h = go (r.id == id) refl h (λ k. removed q j id rows row o.1 k)
  where
    go : (b : Bool) → (r.id == id) ≡ b → cond b (Some r) (find (has_id id) rows) ≡ Some row
        → (find (has_id id) rows ≡ Some row → times q (one_of (cell_of j row)) + times q (column_of (filter (λ s. not (has_id id s)) rows) j) ≡ times q (column_of rows j))
        → times q (one_of (cell_of j row)) + times q (column_of (cond (not b) (r ∷ filter (λ s. not (has_id id s)) rows) (filter (λ s. not (has_id id s)) rows)) j) ≡ times q (column_of (r ∷ rows) j)
    go true e k before =
        let is : r ≡ row = cc in
        let a = column_cons q j r rows in
        let b = ap (λ l. times q (column_of l j)) (kept_behind id rows (subst (λ n. IsBelowAll n rows) (same_id r.id id e) o.0)) in
        let c = ap (λ s. times q (one_of (cell_of j s))) is in
        omega (arith, a, b, c)
    go false e k before =
        let ih = before k in
        let a = column_cons q j r rows in
        let b = column_cons q j r (filter (λ s. not (has_id id s)) rows) in
        omega (arith, a, b, ih)

pub replaced : (q : ℤ) (j id : ℕ) (cells : List Data) (rows : List Row) (row : Row) → AreInIdOrder rows → find (has_id id) rows ≡ Some row
    → times q (one_of (cell_of j row)) + times q (column_of (map (with_cells_in id cells) rows) j) ≡ times q (one_of (cell_of j (record { id = row.id; cells = cells }))) + times q (column_of rows j)
replaced q j id cells [] row o h = absurd cc
replaced q j id cells (r ∷ rows) row o h = go (r.id == id) refl h (λ k. replaced q j id cells rows row o.1 k)
  where
    go : (b : Bool) → (r.id == id) ≡ b → cond b (Some r) (find (has_id id) rows) ≡ Some row
        → (find (has_id id) rows ≡ Some row → times q (one_of (cell_of j row)) + times q (column_of (map (with_cells_in id cells) rows) j) ≡ times q (one_of (cell_of j (record { id = row.id; cells = cells }))) + times q (column_of rows j))
        → times q (one_of (cell_of j row)) + times q (column_of (cond b (record { id = r.id; cells = cells }) r ∷ map (with_cells_in id cells) rows) j)
        ≡ times q (one_of (cell_of j (record { id = row.id; cells = cells }))) + times q (column_of (r ∷ rows) j)
    go true e k before =
        let is : r ≡ row = cc in
        let a = column_cons q j r rows in
        let d = column_cons q j (record { id = r.id; cells = cells }) (map (with_cells_in id cells) rows) in
        let b = ap (λ l. times q (column_of l j)) (same_behind id cells rows (subst (λ n. IsBelowAll n rows) (same_id r.id id e) o.0)) in
        let c = ap (λ s. times q (one_of (cell_of j s))) is in
        let f = ap (λ (s : Row). times q (one_of (cell_of j (record { id = s.id; cells = cells })))) is in
        omega (arith, a, b, c, d, f)
    go false e k before =
        let ih = before k in
        let a = column_cons q j r rows in
        let b = column_cons q j r (map (with_cells_in id cells) rows) in
        omega (arith, a, b, ih)

-- a row that is found is there, and where one is there it is found
pub found_there : (id : ℕ) (rows : List Row) → list_any (has_id id) rows ≡ true → (row : Row) × (find (has_id id) rows ≡ Some row)
found_there id [] h = absurd cc
found_there id (r ∷ rows) h = go (r.id == id) h (λ k. found_there id rows k)
  where
    go : (b : Bool) → (b || list_any (has_id id) rows) ≡ true → (list_any (has_id id) rows ≡ true → (row : Row) × (find (has_id id) rows ≡ Some row)) → (row : Row) × (cond b (Some r) (find (has_id id) rows) ≡ Some row)
    go true k before = (r, refl)
    go false k before = before k

pub there_enough : (q : ℤ) (j id : ℕ) (rows : List Row) (row : Row) → AreInIdOrder rows → find (has_id id) rows ≡ Some row → times q (one_of (cell_of j row)) ≤ times q (column_of rows j)
there_enough q j id rows row o h = let e = removed q j id rows row o h in omega (arith, e)

-- ---- numbers of rows

pub is_row : (id : ℕ) → 1 ≤ id → id < 2 ^ 32 → IsRowNumber (row_number id)
is_row id one few = record {
  first = subst (λ n. 1 ≤ n) (sym (whole id)) one;
  few = subst (λ n. n < 2 ^ 32) (sym (whole id)) few;
  exact = ap row_number (sym (whole id));
}
  where
    whole : (n : ℕ) → n * 10000 / 10000 ≡ n
    whole n = omega arith

-- with one that comes, unless it is counted
pub numbers_more : (zs : List ℤ) (id : ℕ) → 1 ≤ id → id < 2 ^ 32 → AreRowNumbers zs → AreRowNumbers (with_option (fresh (row_number id) zs) zs)
numbers_more zs id one few h = go (times (row_number id) zs == 0) (Decides-eqb (times (row_number id) zs) 0)
  where
    go : (b : Bool) → Decides b (times (row_number id) zs ≡ 0) → AreRowNumbers (with_option (cond b (Some (row_number id)) None) zs)
    go false d = h
    go true d = λ q there. by q there (int_eq (row_number id) q) (Decides-int_eq (row_number id) q) (times_with_option q (Some (row_number id)) zs)
      where
        by : (q : ℤ) → 0 < times q (with_option (Some (row_number id)) zs) → (b : Bool) → Decides b (row_number id ≡ q) → times q (with_option (Some (row_number id)) zs) ≡ cond b 1 0 + 0 + times q zs
            → (times q (with_option (Some (row_number id)) zs) ≡ 1) × IsRowNumber q
        by q there true f e =
            let none : times q zs ≡ 0 = ap (λ z. times z zs) (sym (f.0 refl)) ∙ d.0 refl in
            (omega (arith, e, none), subst IsRowNumber (f.0 refl) (is_row id one few))
        by q there false f e =
            let n = h q (omega (arith, e, there)) in
            let a = n.0 in
            (omega (arith, a, e), n.1)
