-- A table's parts stay whole under each change.
use Rattle.std.proofs.Common.{◌≡◌, ℕ, zero, ◌==◌, ◌<◌, ◌≤◌, ◌+◌, ◌-◌, List, [], ◌∷◌, ◌++◌, map, filter, length, refl, sym, ap, ap₂, ◌∙◌, arith, suc, Bool, true, false, not, cond, ◌||◌, Option, None, Some, subst}
use Rattle.std.specs.List.{list_any, AllByRecursion}
use Rattle.std.specs.List.Sorted.{IsStrictlySortedBy}
use Rattle.std.specs.Map.{keys_of}
use Rattle.std.specs.Option.{IfSome, is_some, option_map}
use Rattle.std.specs.Ordering.{nat_cmp}
use Rattle.std.proofs.lemmas.Bool.{eqb-true}
use Rattle.fx_types.specs.Values.{Data}
use Rattle.fx_core.specs.declared.schema.Column.{Column}
use Rattle.fx_value.specs.Keys.{IsProper}
use Rattle.fx_value.specs.Order.{IsScalar}
use Rattle.row_queries.specs.TableRows.{AreCellsOf, AreInIdOrder, IsBelowAll, value_at}
use Rattle.row_queries.specs.declared.rows.Row.{Row}
use Rattle.row_keeper.specs.Covered.{NoneAbove, entries_of}
use Rattle.row_keeper.specs.Entries.{IndexEntry, Entries, is_entry_among, now_in, then_in}
use Rattle.row_keeper.specs.Slots.{cells_now, cells_then, now_at, rows_now, rows_then, then_at}
use Rattle.row_keeper.specs.Tables.{has_id}
use Rattle.row_keeper.specs.Whole.{IsGood, IsWholeIndex}
use Rattle.row_keeper.specs.declared.row_slots.Slot.{Slot}
use Rattle.row_keeper.proofs.AgreeLemmas.{above_stays, change_marks, end_agrees, none_marks, put_marks, set_agrees, take_marks}
use Rattle.row_keeper.proofs.RowLists.{all_below, changed, has_row, in_order, order_changed, order_less, order_more, row_changed, row_is, row_less, row_more, rows_are, same_rows}

abbrev pub Sorted : List (ℕ × Slot) → Type 0
Sorted rows = IsStrictlySortedBy nat_cmp (keys_of rows)

good_set : (columns : List Column) (rows rows' : List (ℕ × Slot)) (id : ℕ) (w : Option (List Data)) → ((i : ℕ) → IsGood columns i (now_at rows i)) → IsGood columns id w
    → ((i : ℕ) → now_at rows' i ≡ cond (id == i) w (now_at rows i)) → (i : ℕ) → IsGood columns i (now_at rows' i)
good_set columns rows rows' id w h g now i = subst (IsGood columns i) (sym (now i)) (by (id == i) refl)
  where
    by : (t : Bool) → (id == i) ≡ t → IsGood columns i (cond t w (now_at rows i))
    by true e = subst (λ n. IsGood columns n w) (eqb-true id i e) g
    by false e = h i

good_kept : (columns : List Column) (rows rows' : List (ℕ × Slot)) → ((i : ℕ) → IsGood columns i (then_at rows i)) → ((i : ℕ) → then_at rows' i ≡ then_at rows i) → (i : ℕ) → IsGood columns i (then_at rows' i)
good_kept columns rows rows' h same i = subst (IsGood columns i) (sym (same i)) (h i)

none_kept : (first : ℕ) (rows rows' : List (ℕ × Slot)) → NoneAbove first (then_at rows) → ((i : ℕ) → then_at rows' i ≡ then_at rows i) → NoneAbove first (then_at rows')
none_kept first rows rows' h same i l = ap is_some (same i) ∙ h i l

pub then_same : (rows rows' : List (ℕ × Slot)) → Sorted rows → Sorted rows' → ((i : ℕ) → then_at rows' i ≡ then_at rows i) → rows_then rows' ≡ rows_then rows
then_same rows rows' s s' h = same_rows cells_then cells_then rows' rows s' s h

length_more : (xs : List Row) (r : Row) → length (xs ++ r ∷ []) ≡ length xs + 1
length_more [] r = omega arith
length_more (x ∷ xs) r = let e = length_more xs r in omega (arith, e)

length_map : (f : Row → Row) (xs : List Row) → length (map f xs) ≡ length xs
length_map f [] = refl
length_map f (x ∷ xs) = ap suc (length_map f xs)

-- ---- a new row
pub rows_inserted : (rows rows' : List (ℕ × Slot)) (last : ℕ) (cells : List Data) → Sorted rows → Sorted rows' → NoneAbove last (now_at rows)
    → ((i : ℕ) → now_at rows' i ≡ cond (last + 1 == i) (Some cells) (now_at rows i)) → rows_now rows' ≡ rows_now rows ++ record { id = last + 1; cells = cells } ∷ []
rows_inserted rows rows' last cells s s' above now =
    let ordered = in_order cells_now rows s in
    let all = all_below last (rows_now rows) (λ i l. ap is_some (row_is cells_now rows s i) ∙ above i l) ordered in
    let next : last < last + 1 = omega arith in
    let r : Row = record { id = last + 1; cells = cells } in
    rows_are cells_now rows' s' (rows_now rows ++ r ∷ []) (order_more last (rows_now rows) r next all ordered)
    (λ i. now i ∙ ap (cond (last + 1 == i) (Some cells)) (sym (row_is cells_now rows s i)) ∙ sym (row_more last (rows_now rows) r i next all))

none_inserted : (last : ℕ) (at at' : ℕ → Option (List Data)) (w : Option (List Data)) → NoneAbove last at → ((i : ℕ) → at' i ≡ cond (last + 1 == i) w (at i)) → NoneAbove (last + 1) at'
none_inserted last at at' w h now i l = ap is_some (now i) ∙ by (last + 1 == i) refl
  where
    by : (t : Bool) → (last + 1 == i) ≡ t → is_some (cond t w (at i)) ≡ false
    by true e = absurd (let f : last + 1 ≡ i = eqb-true (last + 1) i e in omega (arith, f, l))
    by false e = h i (omega (arith, l))

pub inserted : (columns : List Column) (covered : List ℕ) (rows rows' : List (ℕ × Slot)) (es es1 es' : Entries) (last count first first_count : ℕ) (cells : List Data)
    → IsWholeIndex columns covered rows es last count first first_count → Sorted rows → Sorted rows' → count < 200000 → AreCellsOf columns cells → AllByRecursion IsProper cells
    → ((i : ℕ) → now_at rows' i ≡ cond (last + 1 == i) (Some cells) (now_at rows i)) → ((i : ℕ) → then_at rows' i ≡ then_at rows i)
    → ((q : IndexEntry) → now_in es1 q ≡ now_in es q) → ((q : IndexEntry) → now_in es' q ≡ cond (is_entry_among (entries_of covered (last + 1) cells) q) true (now_in es1 q))
    → ((q : IndexEntry) → then_in es' q ≡ then_in es q)
    → IsWholeIndex columns covered rows' es' (last + 1) (count + 1) first first_count
inserted columns covered rows rows' es es1 es' last count first first_count cells w s s' few fit proper now then room marked kept = record {
  narrow = w.narrow;
  covered_is = w.covered_is;
  agrees = set_agrees covered rows rows' es es' (last + 1) (Some cells) w.agrees now then
      (put_marks covered rows es es1 es' (last + 1) cells w.agrees (w.tallied.above (last + 1) (omega arith)) room marked) kept;
  tallied = record {
    above = none_inserted last (now_at rows) (now_at rows') (Some cells) w.tallied.above now;
    before = none_kept first rows rows' w.tallied.before then;
    later = let l : first ≤ last = w.tallied.later in omega (arith, l);
    counted = let c : count ≡ length (rows_now rows) = w.tallied.counted in let m = length_more (rows_now rows) (record { id = last + 1; cells = cells }) in omega (arith, c, m) ∙ sym (ap length (rows_inserted rows rows' last cells s s' w.tallied.above now));
    counted_then = w.tallied.counted_then ∙ sym (ap length (then_same rows rows' s s' then));
    few = omega (arith, few);
    few_then = w.tallied.few_then;
  };
  good = good_set columns rows rows' (last + 1) (Some cells) w.good (omega arith, fit, proper) now;
  good_then = good_kept columns rows rows' w.good_then then;
}

-- ---- other cells
pub rows_replaced : (rows rows' : List (ℕ × Slot)) (id : ℕ) (cells : List Data) → Sorted rows → Sorted rows' → is_some (now_at rows id) ≡ true
    → ((i : ℕ) → now_at rows' i ≡ cond (id == i) (Some cells) (now_at rows i)) → rows_now rows' ≡ map (changed id cells) (rows_now rows)
rows_replaced rows rows' id cells s s' there now =
    rows_are cells_now rows' s' (map (changed id cells) (rows_now rows)) (order_changed id cells (rows_now rows) (in_order cells_now rows s))
    (λ i. now i ∙ ap (cond (id == i) (Some cells)) (sym (row_is cells_now rows s i)) ∙ sym (row_changed id cells (rows_now rows) i (ap is_some (row_is cells_now rows s id) ∙ there)))

pub replaced : (columns : List Column) (covered : List ℕ) (rows rows' : List (ℕ × Slot)) (es es1 es2 es' : Entries) (last count first first_count id : ℕ) (old cells : List Data)
    → IsWholeIndex columns covered rows es last count first first_count → Sorted rows → Sorted rows' → now_at rows id ≡ Some old → AreCellsOf columns cells → AllByRecursion IsProper cells
    → ((i : ℕ) → now_at rows' i ≡ cond (id == i) (Some cells) (now_at rows i)) → ((i : ℕ) → then_at rows' i ≡ then_at rows i)
    → ((q : IndexEntry) → now_in es1 q ≡ now_in es q) → ((q : IndexEntry) → now_in es2 q ≡ cond (is_entry_among (entries_of covered id old) q) false (now_in es1 q))
    → ((q : IndexEntry) → now_in es' q ≡ cond (is_entry_among (entries_of covered id cells) q) true (now_in es2 q)) → ((q : IndexEntry) → then_in es' q ≡ then_in es q)
    → IsWholeIndex columns covered rows' es' last count first first_count
replaced columns covered rows rows' es es1 es2 es' last count first first_count id old cells w s s' there fit proper now then room out into kept =
    let is_there : is_some (now_at rows id) ≡ true = ap is_some there in record {
      narrow = w.narrow;
      covered_is = w.covered_is;
      agrees = set_agrees covered rows rows' es es' id (Some cells) w.agrees now then (change_marks covered rows es es1 es2 es' id old cells w.agrees there room out into) kept;
      tallied = record {
        above = above_stays last id (now_at rows) (now_at rows') (Some cells) w.tallied.above is_there now;
        before = none_kept first rows rows' w.tallied.before then;
        later = w.tallied.later;
        counted = w.tallied.counted ∙ sym (length_map (changed id cells) (rows_now rows)) ∙ sym (ap length (rows_replaced rows rows' id cells s s' is_there now));
        counted_then = w.tallied.counted_then ∙ sym (ap length (then_same rows rows' s s' then));
        few = w.tallied.few;
        few_then = w.tallied.few_then;
      };
      good = good_set columns rows rows' id (Some cells) w.good (number (now_at rows id) there (w.good id), fit, proper) now;
      good_then = good_kept columns rows rows' w.good_then then;
    }
  where
    number : (o : Option (List Data)) → o ≡ Some old → IsGood columns id o → 1 ≤ id
    number None e g = absurd cc
    number (Some cs) e g = g.0

-- ---- a row less
pub rows_removed : (rows rows' : List (ℕ × Slot)) (id : ℕ) → Sorted rows → Sorted rows'
    → ((i : ℕ) → now_at rows' i ≡ cond (id == i) None (now_at rows i)) → rows_now rows' ≡ filter (λ r. not (has_id id r)) (rows_now rows)
rows_removed rows rows' id s s' now =
    rows_are cells_now rows' s' (filter (λ r. not (has_id id r)) (rows_now rows)) (order_less (λ r. not (has_id id r)) (rows_now rows) (in_order cells_now rows s))
    (λ i. now i ∙ ap (cond (id == i) None) (sym (row_is cells_now rows s i)) ∙ sym (row_less id (rows_now rows) i))

-- one row has a number
one_less : (id : ℕ) (rows : List Row) → AreInIdOrder rows → list_any (has_id id) rows ≡ true → length rows ≡ length (filter (λ r. not (has_id id r)) rows) + 1
one_less id [] o h = absurd cc
one_less id (r ∷ rows) o h = by (has_id id r) refl (one_less id rows o.1)
  where
    rest : List Row
    rest = filter (λ r. not (has_id id r)) rows

    all_kept : (rows : List Row) → IsBelowAll id rows → filter (λ r. not (has_id id r)) rows ≡ rows
    all_kept [] b = refl
    all_kept (x ∷ xs) b = ap₂ (λ t l. cond (not t) (x ∷ l) l) (differs x.id b.0) (all_kept xs b.1)
      where
        differs : (n : ℕ) → id < n → (n == id) ≡ false
        differs n l = go (n == id) refl
          where
            go : (t : Bool) → (n == id) ≡ t → t ≡ false
            go true e = absurd (let f : n ≡ id = eqb-true n id e in omega (arith, f, l))
            go false e = refl

    by : (t : Bool) → has_id id r ≡ t → (list_any (has_id id) rows ≡ true → length rows ≡ length rest + 1) → suc (length rows) ≡ length (cond (not t) (r ∷ rest) rest) + 1
    by true e ih = let f : filter (λ r. not (has_id id r)) rows ≡ rows = all_kept rows (subst (λ n. IsBelowAll n rows) (eqb-true r.id id e) o.0) in let g = ap length f in omega (arith, g)
    by false e ih = let g = ih (ap (λ b. b || list_any (has_id id) rows) (sym e) ∙ h) in omega (arith, g)

pub removed : (columns : List Column) (covered : List ℕ) (rows rows' : List (ℕ × Slot)) (es es' : Entries) (last count first first_count id : ℕ) (old : List Data)
    → IsWholeIndex columns covered rows es last count first first_count → Sorted rows → Sorted rows' → now_at rows id ≡ Some old
    → ((i : ℕ) → now_at rows' i ≡ cond (id == i) None (now_at rows i)) → ((i : ℕ) → then_at rows' i ≡ then_at rows i)
    → ((q : IndexEntry) → now_in es' q ≡ cond (is_entry_among (entries_of covered id old) q) false (now_in es q)) → ((q : IndexEntry) → then_in es' q ≡ then_in es q)
    → IsWholeIndex columns covered rows' es' last (count - 1) first first_count
removed columns covered rows rows' es es' last count first first_count id old w s s' there now then out kept =
    let is_there : is_some (now_at rows id) ≡ true = ap is_some there in record {
      narrow = w.narrow;
      covered_is = w.covered_is;
      agrees = set_agrees covered rows rows' es es' id None w.agrees now then (none_marks covered es es' id (take_marks covered rows es es' id old w.agrees there out)) kept;
      tallied = record {
        above = above_stays last id (now_at rows) (now_at rows') None w.tallied.above is_there now;
        before = none_kept first rows rows' w.tallied.before then;
        later = w.tallied.later;
        counted =
            let c : count ≡ length (rows_now rows) = w.tallied.counted in
            let one = one_less id (rows_now rows) (in_order cells_now rows s) (has_row id (rows_now rows) ∙ ap is_some (row_is cells_now rows s id) ∙ is_there) in
            omega (arith, c, one) ∙ sym (ap length (rows_removed rows rows' id s s' now));
        counted_then = w.tallied.counted_then ∙ sym (ap length (then_same rows rows' s s' then));
        few = let f : count ≤ 200000 = w.tallied.few in omega (arith, f);
        few_then = w.tallied.few_then;
      };
      good = good_set columns rows rows' id None w.good tt now;
      good_then = good_kept columns rows rows' w.good_then then;
    }

-- ---- nothing changes that is told
pub same_whole : (columns : List Column) (covered : List ℕ) (rows rows' : List (ℕ × Slot)) (es es' : Entries) (last count first first_count : ℕ)
    → IsWholeIndex columns covered rows es last count first first_count → rows' ≡ rows → ((q : IndexEntry) → now_in es' q ≡ now_in es q) → ((q : IndexEntry) → then_in es' q ≡ then_in es q)
    → IsWholeIndex columns covered rows' es' last count first first_count
same_whole columns covered rows rows' es es' last count first first_count w e now then = subst (λ r. IsWholeIndex columns covered r es' last count first first_count) (sym e) (record {
  narrow = w.narrow;
  covered_is = w.covered_is;
  agrees = (λ q. now q ∙ w.agrees.0 q, λ q. then q ∙ w.agrees.1 q);
  tallied = w.tallied;
  good = w.good;
  good_then = w.good_then;
})

-- ---- the ends of a transaction
pub taken_back : (columns : List Column) (covered : List ℕ) (rows rows' : List (ℕ × Slot)) (es es' : Entries) (last count first first_count : ℕ)
    → IsWholeIndex columns covered rows es last count first first_count → Sorted rows → Sorted rows'
    → ((i : ℕ) → now_at rows' i ≡ then_at rows i) → ((i : ℕ) → then_at rows' i ≡ then_at rows i)
    → ((q : IndexEntry) → now_in es' q ≡ then_in es q) → ((q : IndexEntry) → then_in es' q ≡ then_in es q)
    → IsWholeIndex columns covered rows' es' first first_count first first_count
taken_back columns covered rows rows' es es' last count first first_count w s s' now then now_is then_is = record {
  narrow = w.narrow;
  covered_is = w.covered_is;
  agrees = end_agrees covered (then_at rows) rows' (then_in es) es' w.agrees.1 now then now_is then_is;
  tallied = record {
    above = λ i l. ap is_some (now i) ∙ w.tallied.before i l;
    before = none_kept first rows rows' w.tallied.before then;
    later = omega arith;
    counted = w.tallied.counted_then ∙ sym (ap length (same_rows cells_now cells_then rows' rows s' s now));
    counted_then = w.tallied.counted_then ∙ sym (ap length (then_same rows rows' s s' then));
    few = w.tallied.few_then;
    few_then = w.tallied.few_then;
  };
  good = λ i. subst (IsGood columns i) (sym (now i)) (w.good_then i);
  good_then = good_kept columns rows rows' w.good_then then;
}

pub ended : (columns : List Column) (covered : List ℕ) (rows rows' : List (ℕ × Slot)) (es es' : Entries) (last count first first_count : ℕ)
    → IsWholeIndex columns covered rows es last count first first_count → Sorted rows → Sorted rows'
    → ((i : ℕ) → now_at rows' i ≡ now_at rows i) → ((i : ℕ) → then_at rows' i ≡ now_at rows i)
    → ((q : IndexEntry) → now_in es' q ≡ now_in es q) → ((q : IndexEntry) → then_in es' q ≡ now_in es q)
    → IsWholeIndex columns covered rows' es' last count last count
ended columns covered rows rows' es es' last count first first_count w s s' now then now_is then_is = record {
  narrow = w.narrow;
  covered_is = w.covered_is;
  agrees = end_agrees covered (now_at rows) rows' (now_in es) es' w.agrees.0 now then now_is then_is;
  tallied = record {
    above = λ i l. ap is_some (now i) ∙ w.tallied.above i l;
    before = λ i l. ap is_some (then i) ∙ w.tallied.above i l;
    later = omega arith;
    counted = w.tallied.counted ∙ sym (ap length (same_rows cells_now cells_now rows' rows s' s now));
    counted_then = w.tallied.counted ∙ sym (ap length (same_rows cells_then cells_now rows' rows s' s then));
    few = w.tallied.few;
    few_then = w.tallied.few;
  };
  good = λ i. subst (IsGood columns i) (sym (now i)) (w.good i);
  good_then = λ i. subst (IsGood columns i) (sym (then i)) (w.good i);
}

-- ---- what is asked of cells
pub scalar_at : (columns : List Column) (cells : List Data) → AreCellsOf columns cells → (k : ℕ) → IsScalar (value_at cells k)
scalar_at [] [] h k = tt
scalar_at [] (d ∷ ds) h k = absurd h
scalar_at (c ∷ cs) [] h k = absurd h
scalar_at (c ∷ cs) (d ∷ ds) h zero = h.0
scalar_at (c ∷ cs) (d ∷ ds) h (suc k) = scalar_at cs ds h.2 k

pub scalars_in : (columns : List Column) (rows : List (ℕ × Slot)) → ((i : ℕ) → IsGood columns i (now_at rows i)) → (i k : ℕ) → IfSome (now_at rows i) (λ cells. IsScalar (value_at cells k))
scalars_in columns rows good i k = by (now_at rows i) (good i)
  where
    by : (o : Option (List Data)) → IsGood columns i o → IfSome o (λ cells. IsScalar (value_at cells k))
    by None h = tt
    by (Some cells) h = scalar_at columns cells h.1 k

-- the row whose entries these are
pub row_of_entries : (covered : List ℕ) (rows : List (ℕ × Slot)) (id : ℕ) (out : List IndexEntry) → Some out ≡ option_map (entries_of covered id) (now_at rows id)
    → (old : List Data) × (now_at rows id ≡ Some old) × (out ≡ entries_of covered id old)
row_of_entries covered rows id out e = by (now_at rows id) refl e
  where
    by : (o : Option (List Data)) → now_at rows id ≡ o → Some out ≡ option_map (entries_of covered id) o → (old : List Data) × (now_at rows id ≡ Some old) × (out ≡ entries_of covered id old)
    by None f g = absurd cc
    by (Some old) f g = (old, f, cc)

pub no_row : (covered : List ℕ) (rows : List (ℕ × Slot)) (id : ℕ) → IsStrictlySortedBy nat_cmp (keys_of rows) → None ≡ option_map (entries_of covered id) (now_at rows id) → list_any (has_id id) (rows_now rows) ≡ false
no_row covered rows id sorted e = has_row id (rows_now rows) ∙ ap is_some (row_is cells_now rows sorted id) ∙ by (now_at rows id) e
  where
    by : (o : Option (List Data)) → None ≡ option_map (entries_of covered id) o → is_some o ≡ false
    by None f = refl
    by (Some cells) f = absurd cc

pub some_row : (rows : List (ℕ × Slot)) (id : ℕ) (old : List Data) → IsStrictlySortedBy nat_cmp (keys_of rows) → now_at rows id ≡ Some old → list_any (has_id id) (rows_now rows) ≡ true
some_row rows id old sorted e = has_row id (rows_now rows) ∙ ap is_some (row_is cells_now rows sorted id) ∙ ap is_some e

pub some_count : (rows : List (ℕ × Slot)) (id : ℕ) (old : List Data) → IsStrictlySortedBy nat_cmp (keys_of rows) → now_at rows id ≡ Some old → 1 ≤ length (rows_now rows)
some_count rows id old sorted e = let one = one_less id (rows_now rows) (in_order cells_now rows sorted) (some_row rows id old sorted e) in omega (arith, one)

-- whether a row is one, by what stands under its number
pub is_row : (rows : List (ℕ × Slot)) (id : ℕ) (at : Option (List Data)) → IsStrictlySortedBy nat_cmp (keys_of rows) → now_at rows id ≡ at → is_some at ≡ list_any (has_id id) (rows_now rows)
is_row rows id at sorted e = sym (ap is_some e) ∙ sym (ap is_some (row_is cells_now rows sorted id)) ∙ sym (has_row id (rows_now rows))
