-- What is counted goes on to be right as calls change the rows.
use Rattle.std.proofs.Common.{◌≡◌, ℕ, zero, suc, ◌+◌, ◌<◌, ◌≤◌, ◌^◌, ◌==◌, ◌++◌, ℤ, List, [], ◌∷◌, map, filter, Bool, true, false, not, cond, Option, Some, None, refl, sym, ap, subst, ◌∙◌, arith}
use Rattle.std.specs.Prelude.{IfSome, IsSome, option_map, slice_get}
use Rattle.std.specs.Bool.{Decides}
use Rattle.std.specs.List.{AllByRecursion, find, list_any}
use Rattle.std.proofs.lemmas.Bool.Decides.{Decides-eqb}
use Rattle.fx_base.specs.Silence.{MayFallSilent}
use Rattle.fx_types.specs.Values.{Data}
use Rattle.fx_core.specs.declared.schema.Schema.{Schema}
use Rattle.fx_core.specs.declared.schema.TableShape.{TableShape}
use Rattle.fx_value.specs.Keys.{IsProper}
use Rattle.number_bags.specs.Rising.{AreSame, times, with_option, without_number, without_option}
use Rattle.number_bags.proofs.RisingLemmas.{out, without_none}
use Rattle.row_queries.specs.TableRows.{AreInIdOrder, values_of}
use Rattle.row_queries.specs.declared.rows.Row.{Row}
use Rattle.row_keeper.specs.Changes.{Inserts, Removes, Replaces}
use Rattle.row_keeper.specs.Tables.{AreStatesOf, IsStateOf, TableState, Tables, columns_at, has_id, state_at, with_cells, with_row, with_state, without_row}
use Rattle.row_keeper.specs.declared.rows.Put.TheVariants.{Id}
use Rattle.row_counts.specs.Columns.{column_of}
use Rattle.row_books.specs.Numbers.{IsChangedAt, changed, column_in, fresh_among, fresh_in, number_at, numbers_of, row_number}
use Rattle.row_counts.specs.Right.{AreComplete, AreCounted, AreInRanges, AreOf, AreRowNumbers, CountRows, HaveProperRows}
use Rattle.row_counts.proofs.ColumnLemmas.{found_there, fresh_is, not_yet, numbers_more, with_cells_in}
use Rattle.row_counts.proofs.Steps.{changed_right, row_changes, row_comes, row_goes, state_beside, state_there, state_written, states_there}
use Rattle.row_counts.proofs.Telling.{goes_on}

-- ---- numbers of rows

fewer : (z q : ℤ) (zs : List ℤ) → times q (without_number z zs) ≤ times q zs
fewer z q zs = go (times z zs == 0) (Decides-eqb (times z zs) 0)
  where
    some : (n : ℕ) → (n ≡ 0 → ⊥) → 0 < n
    some zero h = absurd (h refl)
    some (suc n) h = omega arith

    go : (b : Bool) → Decides b (times z zs ≡ 0) → times q (without_number z zs) ≤ times q zs
    go true d = let e = ap (times q) (without_none z zs (d.0 refl)) in omega (arith, e)
    go false d = let e = (out z zs (some (times z zs) (λ f. let t = d.1 f in cc))).others q in omega (arith, e)

-- without one
pub numbers_fewer : (o : Option ℤ) (zs : List ℤ) → AreRowNumbers zs → AreRowNumbers (without_option o zs)
numbers_fewer None zs h = h
numbers_fewer (Some z) zs h = λ q l.
    let f = fewer z q zs in
    let n = h q (omega (arith, f, l)) in
    let a = n.0 in
    (omega (arith, a, f, l), n.1)

-- ---- one table changed
module _ (table : ℕ) (out put : List (Option ℤ)) (old new : List (List (List ℤ))) (changes : IsChangedAt table out put old new) where
  rows_after : CountRows old → ((zs : List ℤ) → column_in old table 0 ≡ Some zs → AreRowNumbers zs → AreRowNumbers (changed (number_at out 0) (number_at put 0) zs)) → CountRows new
  rows_after rows step t = go (t == table) (Decides-eqb t table) (changes t 0)
    where
      go : (b : Bool) → Decides b (t ≡ table) → column_in new t 0 ≡ cond b (option_map (changed (number_at out 0) (number_at put 0)) (column_in old t 0)) (column_in old t 0) → IfSome (column_in new t 0) AreRowNumbers
      go false d e = subst (λ o. IfSome o AreRowNumbers) (sym e) (rows t)
      go true d e = subst (λ o. IfSome o AreRowNumbers) (sym e) (one (column_in old t 0) (ap (λ k. column_in old k 0) (sym (d.0 refl))) (rows t))
        where
          one : (o : Option (List ℤ)) → column_in old table 0 ≡ o → IfSome o AreRowNumbers → IfSome (option_map (changed (number_at out 0) (number_at put 0)) o) AreRowNumbers
          one None p k = tt
          one (Some zs) p k = step zs p k

  complete_after : (shapes : List TableShape) → AreComplete shapes old → AreComplete shapes new
  complete_after shapes h k t e column l = subst (λ o. IsSome o) (sym (changes k column)) (go (k == table) (column_in old k column) (h k t e column l))
    where
      go : (b : Bool) (o : Option (List ℤ)) → IsSome o → IsSome (cond b (option_map (changed (number_at out column) (number_at put column)) o) o)
      go true (Some zs) s = refl
      go false (Some zs) s = refl
      go b None s = absurd cc

proper_after : (shapes : List TableShape) (a : Tables) (table : ℕ) (s before : TableState) → slice_get a.states table ≡ Some before
    → (AreInRanges (state_at a.states table).rows → AreInRanges s.rows) → HaveProperRows shapes a → HaveProperRows shapes (with_state a table s)
proper_after shapes a table s before there step h t shape e = go (t == table) (Decides-eqb t table)
  where
    go : (b : Bool) → Decides b (t ≡ table) → AreInRanges (state_at (with_state a table s).states t).rows
    go false d = subst (λ (w : TableState). AreInRanges w.rows) (sym (state_beside a.states table t s (λ f. let g = d.1 f in cc))) (h t shape e)
    go true d =
        let here : t ≡ table = d.0 refl in
        subst (λ (k : ℕ). AreInRanges (state_at (with_state a table s).states k).rows) (sym here)
        (subst (λ (w : TableState). AreInRanges w.rows) (sym (state_written a.states table s before there))
        (step (subst (λ (k : ℕ). AreInRanges (state_at a.states k).rows) here (h t shape e))))

-- ---- cells in their ranges
proper_more : (rows : List Row) (row : Row) → AllByRecursion IsProper row.cells → AreInRanges rows → AreInRanges (rows ++ row ∷ [])
proper_more [] row p h = (p, tt)
proper_more (r ∷ rows) row p h = (h.0, proper_more rows row p h.1)

proper_with : (id : ℕ) (cells : List Data) (rows : List Row) → AllByRecursion IsProper cells → AreInRanges rows → AreInRanges (map (with_cells_in id cells) rows)
proper_with id cells [] p h = tt
proper_with id cells (r ∷ rows) p h = (go (has_id id r), proper_with id cells rows p h.1)
  where
    go : (b : Bool) → AllByRecursion IsProper (cond b (record { id = r.id; cells = cells }) r).cells
    go true = p
    go false = h.0

proper_less : (p : Row → Bool) (rows : List Row) → AreInRanges rows → AreInRanges (filter p rows)
proper_less p [] h = tt
proper_less p (r ∷ rows) h = go (p r) (proper_less p rows h.1)
  where
    go : (b : Bool) → AreInRanges (filter p rows) → AreInRanges (cond b (r ∷ filter p rows) (filter p rows))
    go true k = (h.0, k)
    go false k = k

-- ---- a number that is above all is fresh
fresh_found : (z : ℤ) (xs : List ℤ) (o : Option (List ℤ)) → IsSome o → IfSome o (λ zs. AreSame zs xs) → times z xs ≡ 0 → fresh_among z o ≡ Some z
fresh_found z xs None s h e = absurd cc
fresh_found z xs (Some zs) s h e = fresh_is z zs xs h e

-- ---- the calls
module _ (lost : Type 0) (s : Schema) (table : ℕ) (shape : TableShape) (there : slice_get s.tables table ≡ Some shape) (a b : Option Tables) (fits : IfSome a (λ (t : Tables). AreStatesOf s.tables t.states)) where
  state_is : (x : Tables) → a ≡ Some x → IsStateOf shape (state_at x.states table)
  state_is x e = state_there s.tables x table shape (subst (λ o. IfSome o (λ (t : Tables). AreStatesOf s.tables t.states)) e fits) there

  before_is : (x : Tables) → a ≡ Some x → (w : TableState) × (slice_get x.states table ≡ Some w) × IsStateOf shape w
  before_is x e = states_there s.tables x.states table shape (subst (λ o. IfSome o (λ (t : Tables). AreStatesOf s.tables t.states)) e fits) there

  pub counted_inserted : (id : ℕ) (cells : List Data) (old new : List (List (List ℤ))) → MayFallSilent lost (Inserts (columns_at s.tables table) table cells (Id id)) a b
      → 1 ≤ id → id < 2 ^ 32 → AllByRecursion IsProper cells → IsChangedAt table (None ∷ []) (fresh_in old table id ∷ numbers_of cells) old new
      → AreCounted (Some s) old a → AreCounted (Some s) new b
  counted_inserted id cells old new g one few proper changes h = record {
    right = goes_on lost (Inserts (columns_at s.tables table) table cells (Id id)) (AreOf old) (AreOf new) a b g (λ x y e p right. subst (AreOf new) (sym p.2) (comes x e p.1 right)) h.right;
    rows = rows_after table (None ∷ []) (fresh_in old table id ∷ numbers_of cells) old new changes h.rows
        (λ zs e k. subst (λ o. AreRowNumbers (with_option (fresh_among (row_number id) o) zs)) (sym e) (numbers_more zs id one few k));
    complete = complete_after table (None ∷ []) (fresh_in old table id ∷ numbers_of cells) old new changes s.tables h.complete;
    proper = goes_on lost (Inserts (columns_at s.tables table) table cells (Id id)) (HaveProperRows s.tables) (HaveProperRows s.tables) a b g
        (λ x y e p k. let w = before_is x e in subst (HaveProperRows s.tables) (sym p.2)
        (proper_after s.tables x table (with_row cells (state_at x.states table)) w.0 w.1 (proper_more (state_at x.states table).rows (record { id = (state_at x.states table).last + 1; cells = cells }) proper) k)) h.proper;
  }
    where
      comes : (x : Tables) → a ≡ Some x → id ≡ (state_at x.states table).last + 1 → AreOf old x → AreOf new (with_state x table (with_row cells (state_at x.states table)))
      comes x e i right =
          let st = state_is x e in
          let w = before_is x e in
          let last = (state_at x.states table).last in
          let is : fresh_in old table id ≡ Some (row_number (last + 1)) =
          ap (λ n. fresh_in old table n) i
          ∙ fresh_found (row_number (last + 1)) (column_of (state_at x.states table).rows 0) (column_in old table 0) (h.complete table shape there 0 (omega arith)) (right table 0) (not_yet (state_at x.states table).rows last st.given) in
          changed_right table (None ∷ []) (Some (row_number (last + 1)) ∷ numbers_of cells) old new x (with_row cells (state_at x.states table)) w.0 w.1
          (subst (λ o. IsChangedAt table (None ∷ []) (o ∷ numbers_of cells) old new) is changes) (row_comes cells (state_at x.states table)) right

  pub counted_replaced : (id n : ℕ) (cells : List Data) (outs : List (Option ℤ)) (old new : List (List (List ℤ))) → MayFallSilent lost (Replaces (columns_at s.tables table) table id cells (Id n)) a b
      → AllByRecursion IsProper cells
      → IfSome a (λ (t : Tables). AreInIdOrder (state_at t.states table).rows → (row : Row) → find (has_id id) (state_at t.states table).rows ≡ Some row → outs ≡ numbers_of row.cells)
      → IsChangedAt table (None ∷ outs) (None ∷ numbers_of cells) old new
      → AreCounted (Some s) old a → AreCounted (Some s) new b
  counted_replaced id n cells outs old new g proper found changes h = record {
    right = goes_on lost (Replaces (columns_at s.tables table) table id cells (Id n)) (AreOf old) (AreOf new) a b g (λ x y e p right. subst (AreOf new) (sym p.3) (becomes x e p.1 right)) h.right;
    rows = rows_after table (None ∷ outs) (None ∷ numbers_of cells) old new changes h.rows (λ zs e k. k);
    complete = complete_after table (None ∷ outs) (None ∷ numbers_of cells) old new changes s.tables h.complete;
    proper = goes_on lost (Replaces (columns_at s.tables table) table id cells (Id n)) (HaveProperRows s.tables) (HaveProperRows s.tables) a b g
        (λ x y e p k. let w = before_is x e in subst (HaveProperRows s.tables) (sym p.3)
        (proper_after s.tables x table (with_cells id cells (state_at x.states table)) w.0 w.1 (proper_with id cells (state_at x.states table).rows proper) k)) h.proper;
  }
    where
      becomes : (x : Tables) → a ≡ Some x → list_any (has_id id) (state_at x.states table).rows ≡ true → AreOf old x → AreOf new (with_state x table (with_cells id cells (state_at x.states table)))
      becomes x e k right =
          let st = state_is x e in
          let w = before_is x e in
          let f = found_there id (state_at x.states table).rows k in
          let is : outs ≡ numbers_of f.0.cells = subst (λ o. IfSome o (λ (t : Tables). AreInIdOrder (state_at t.states table).rows → (row : Row) → find (has_id id) (state_at t.states table).rows ≡ Some row → outs ≡ numbers_of row.cells)) e found st.rising f.0 f.1 in
          changed_right table (None ∷ numbers_of f.0.cells) (None ∷ numbers_of cells) old new x (with_cells id cells (state_at x.states table)) w.0 w.1
          (subst (λ o. IsChangedAt table (None ∷ o) (None ∷ numbers_of cells) old new) is changes) (row_changes id cells f.0 (state_at x.states table) st.rising f.1) right

  pub counted_removed : (id : ℕ) (outs : List (Option ℤ)) (old new : List (List (List ℤ))) → MayFallSilent lost (Removes table id true) a b
      → IfSome a (λ (t : Tables). AreInIdOrder (state_at t.states table).rows → (row : Row) → find (has_id id) (state_at t.states table).rows ≡ Some row → outs ≡ numbers_of (values_of row))
      → IsChangedAt table outs (None ∷ []) old new
      → AreCounted (Some s) old a → AreCounted (Some s) new b
  counted_removed id outs old new g found changes h = record {
    right = goes_on lost (Removes table id true) (AreOf old) (AreOf new) a b g (λ x y e p right. subst (AreOf new) (sym p.1) (goes x e p.0 right)) h.right;
    rows = rows_after table outs (None ∷ []) old new changes h.rows (λ zs e k. numbers_fewer (number_at outs 0) zs k);
    complete = complete_after table outs (None ∷ []) old new changes s.tables h.complete;
    proper = goes_on lost (Removes table id true) (HaveProperRows s.tables) (HaveProperRows s.tables) a b g
        (λ x y e p k. let w = before_is x e in subst (HaveProperRows s.tables) (sym p.1)
        (proper_after s.tables x table (without_row id (state_at x.states table)) w.0 w.1 (proper_less (λ r. not (has_id id r)) (state_at x.states table).rows) k)) h.proper;
  }
    where
      goes : (x : Tables) → a ≡ Some x → list_any (has_id id) (state_at x.states table).rows ≡ true → AreOf old x → AreOf new (with_state x table (without_row id (state_at x.states table)))
      goes x e k right =
          let st = state_is x e in
          let w = before_is x e in
          let f = found_there id (state_at x.states table).rows k in
          let is : outs ≡ numbers_of (values_of f.0) = subst (λ o. IfSome o (λ (t : Tables). AreInIdOrder (state_at t.states table).rows → (row : Row) → find (has_id id) (state_at t.states table).rows ≡ Some row → outs ≡ numbers_of (values_of row))) e found st.rising f.0 f.1 in
          changed_right table (numbers_of (values_of f.0)) (None ∷ []) old new x (without_row id (state_at x.states table)) w.0 w.1
          (subst (λ o. IsChangedAt table o (None ∷ []) old new) is changes) (row_goes id f.0 (state_at x.states table) st.rising f.1) right
