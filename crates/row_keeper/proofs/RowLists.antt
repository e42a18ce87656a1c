-- Rows by rising numbers are known by what stands under each number.
use Rattle.std.proofs.Common.{◌≡◌, ℕ, ◌==◌, ◌<◌, ◌≤◌, List, [], ◌∷◌, ◌++◌, map, filter, refl, sym, ap, ◌∙◌, arith, Bool, true, false, not, cond, ◌||◌, Option, None, Some, subst}
use Rattle.std.specs.List.{list_any, AllByRecursion}
use Rattle.std.specs.List.Sorted.{IsStrictlySortedBy}
use Rattle.std.specs.Map.{lookup, keys_of}
use Rattle.std.specs.Option.{is_some, option_map}
use Rattle.std.specs.BTreeMap.{is_at}
use Rattle.std.specs.Ordering.{nat_cmp}
use Rattle.std.specs.Cmp.{unsigned_ties}
use Rattle.std.specs.declared.cmp.Ordering.{Ordering}
use Rattle.std.specs.declared.cmp.Ordering.TheVariants.{Less, Equal, Greater}
use Rattle.std.proofs.lemmas.Bool.{eqb-true, eq-eqb}
use Rattle.std.proofs.lemmas.Bool.Decides.{nat_tests}
use Rattle.std.proofs.lemmas.Map.Keys.{sorted_head, sorted_tail}
use Rattle.fx_types.specs.Values.{Data}
use Rattle.row_queries.specs.TableRows.{AreInIdOrder, IsBelowAll}
use Rattle.row_queries.specs.declared.rows.Row.{Row}
use Rattle.row_keeper.specs.Slots.{cells_at, in_slot, row_before, rows_by}
use Rattle.row_keeper.specs.Tables.{has_id}
use Rattle.row_keeper.specs.declared.row_slots.Slot.{Slot}

-- the cells of the row of a number
abbrev pub row_at : ℕ → List Row → Option (List Data)
row_at i [] = None
row_at i (r ∷ rs) = cond (r.id == i) (Some r.cells) (row_at i rs)

same_id : (a b : ℕ) → (a == b) ≡ true → a ≡ b
same_id a b h = eqb-true a b h

itself : (n : ℕ) → (n == n) ≡ true
itself n = eq-eqb n n refl

differ_back : (a b : ℕ) → b < a → (a == b) ≡ false
differ_back a b h = grind (arith, nat_tests)

pub below_less : (a b : ℕ) (rs : List Row) → a < b → IsBelowAll b rs → IsBelowAll a rs
below_less a b [] l h = tt
below_less a b (r ∷ rs) l h = (omega (arith, l, h.0), below_less a b rs l h.1)

-- no row of a number below all
pub none_below : (i : ℕ) (rs : List Row) → IsBelowAll i rs → row_at i rs ≡ None
none_below i [] h = refl
none_below i (r ∷ rs) h = ap (λ b. cond b (Some r.cells) (row_at i rs)) (differ_back r.id i h.0) ∙ none_below i rs h.1

-- ---- two lists that tell the same are one
first_is : (r : Row) (rs : List Row) → row_at r.id (r ∷ rs) ≡ Some r.cells
first_is r rs = ap (λ b. cond b (Some r.cells) (row_at r.id rs)) (itself r.id)

none_before : (n : ℕ) (r : Row) (rs : List Row) → n < r.id → IsBelowAll r.id rs → row_at n (r ∷ rs) ≡ None
none_before n r rs l h = none_below n (r ∷ rs) (l, below_less n r.id rs l h)

pub same_list : (xs ys : List Row) → AreInIdOrder xs → AreInIdOrder ys → ((i : ℕ) → row_at i xs ≡ row_at i ys) → xs ≡ ys
same_list [] [] a b h = refl
same_list [] (y ∷ ys) a b h = absurd (let e : None ≡ Some y.cells = h y.id ∙ first_is y ys in cc)
same_list (x ∷ xs) [] a b h = absurd (let e : Some x.cells ≡ None = sym (first_is x xs) ∙ h x.id in cc)
same_list (x ∷ xs) (y ∷ ys) a b h = by (same_list xs ys a.1 b.1) (nat_cmp x.id y.id) refl
  where
    both : (((i : ℕ) → row_at i xs ≡ row_at i ys) → xs ≡ ys) → x.id ≡ y.id → (x ∷ xs) ≡ (y ∷ ys)
    both ih e =
        let cells : Some x.cells ≡ Some y.cells = sym (first_is x xs) ∙ h x.id ∙ ap (λ n. row_at n (y ∷ ys)) e ∙ first_is y ys in
        let inside : x.cells ≡ y.cells = cc in
        let rest : xs ≡ ys = ih later in
        λ k. record { id = e k; cells = inside k } ∷ rest k
      where
        later : (i : ℕ) → row_at i xs ≡ row_at i ys
        later i = go (x.id == i) refl
          where
            go : (t : Bool) → (x.id == i) ≡ t → row_at i xs ≡ row_at i ys
            go true f = none_below i xs (subst (λ n. IsBelowAll n xs) (same_id x.id i f) a.0) ∙ sym (none_below i ys (subst (λ n. IsBelowAll n ys) (sym e ∙ same_id x.id i f) b.0))
            go false f = ap (λ t. cond t (Some x.cells) (row_at i xs)) (sym f) ∙ h i ∙ ap (λ t. cond t (Some y.cells) (row_at i ys)) (ap (λ n. n == i) (sym e) ∙ f)

    by : (((i : ℕ) → row_at i xs ≡ row_at i ys) → xs ≡ ys) → (o : Ordering) → nat_cmp x.id y.id ≡ o → (x ∷ xs) ≡ (y ∷ ys)
    by ih Less e = absurd (let l : x.id < y.id = grind (arith, nat_tests, e) in let z : Some x.cells ≡ None = sym (first_is x xs) ∙ h x.id ∙ none_before x.id y ys l b.0 in cc)
    by ih Equal e = both ih (grind (arith, nat_tests, e))
    by ih Greater e = absurd (let l : y.id < x.id = grind (arith, nat_tests, e) in let z : Some y.cells ≡ None = sym (first_is y ys) ∙ sym (h y.id) ∙ none_before y.id x xs l a.0 in cc)

-- ---- the rows of a map
module _ (f : Slot → Option (List Data)) where
  below_keys : (n : ℕ) (es : List (ℕ × Slot)) → AllByRecursion (λ y. nat_cmp n y ≡ Less) (keys_of es) → IsBelowAll n (rows_by f es)
  below_keys n [] h = tt
  below_keys n (e ∷ es) h = by (f e.1) (below_keys n es h.1)
    where
      by : (o : Option (List Data)) → IsBelowAll n (rows_by f es) → IsBelowAll n (row_before e.0 o (rows_by f es))
      by None k = k
      by (Some cells) k = (let q : nat_cmp n e.0 ≡ Less = h.0 in grind (arith, nat_tests, q), k)

  pub in_order : (es : List (ℕ × Slot)) → IsStrictlySortedBy nat_cmp (keys_of es) → AreInIdOrder (rows_by f es)
  in_order [] h = tt
  in_order (e ∷ es) h = by (f e.1) (in_order es (sorted_tail nat_cmp e.0 (keys_of es) h))
    where
      by : (o : Option (List Data)) → AreInIdOrder (rows_by f es) → AreInIdOrder (row_before e.0 o (rows_by f es))
      by None rest = rest
      by (Some cells) rest = (below_keys e.0 es (sorted_head nat_cmp e.0 (keys_of es) h), rest)

  pub row_is : (es : List (ℕ × Slot)) → IsStrictlySortedBy nat_cmp (keys_of es) → (i : ℕ) → row_at i (rows_by f es) ≡ cells_at f es i
  row_is [] h i = refl
  row_is (e ∷ es) h i = by (e.0 == i) refl (f e.1) refl (row_is es (sorted_tail nat_cmp e.0 (keys_of es) h) i)
    where
      at_is : is_at (nat_cmp i) e.0 ≡ (e.0 == i)
      at_is = sym (unsigned_ties i e.0) ∙ turned i e.0
        where
          turned : (a b : ℕ) → (a == b) ≡ (b == a)
          turned a b = grind (arith, nat_tests)

      here : (t : Bool) → (e.0 == i) ≡ t → cells_at f (e ∷ es) i ≡ in_slot f (cond t (Some e.1) (lookup (is_at (nat_cmp i)) es))
      here t k = ap (λ b. in_slot f (cond b (Some e.1) (lookup (is_at (nat_cmp i)) es))) (at_is ∙ k)

      by : (t : Bool) → (e.0 == i) ≡ t → (o : Option (List Data)) → f e.1 ≡ o → row_at i (rows_by f es) ≡ cells_at f es i → row_at i (row_before e.0 o (rows_by f es)) ≡ cells_at f (e ∷ es) i
      by true k (Some cells) g ih = ap (λ b. cond b (Some cells) (row_at i (rows_by f es))) k ∙ sym (here true k ∙ g)
      by true k None g ih = subst (λ n. row_at n (rows_by f es) ≡ None) (same_id e.0 i k) (none_below e.0 (rows_by f es) (below_keys e.0 es (sorted_head nat_cmp e.0 (keys_of es) h))) ∙ sym (here true k ∙ g)
      by false k (Some cells) g ih = ap (λ b. cond b (Some cells) (row_at i (rows_by f es))) k ∙ ih ∙ sym (here false k)
      by false k None g ih = ih ∙ sym (here false k)

-- a list of rows that tells what a map does is that of the map
pub rows_are : (f : Slot → Option (List Data)) (es : List (ℕ × Slot)) → IsStrictlySortedBy nat_cmp (keys_of es) → (rows : List Row) → AreInIdOrder rows → ((i : ℕ) → cells_at f es i ≡ row_at i rows) → rows_by f es ≡ rows
rows_are f es sorted rows ordered h = same_list (rows_by f es) rows (in_order f es sorted) ordered (λ i. row_is f es sorted i ∙ h i)

pub same_rows : (f g : Slot → Option (List Data)) (es fs : List (ℕ × Slot)) → IsStrictlySortedBy nat_cmp (keys_of es) → IsStrictlySortedBy nat_cmp (keys_of fs) → ((i : ℕ) → cells_at f es i ≡ cells_at g fs i) → rows_by f es ≡ rows_by g fs
same_rows f g es fs s t h = rows_are f es s (rows_by g fs) (in_order g fs t) (λ i. h i ∙ sym (row_is g fs t i))

-- ---- a row more
pub all_below : (n : ℕ) (rows : List Row) → ((i : ℕ) → n < i → is_some (row_at i rows) ≡ false) → AreInIdOrder rows → AllByRecursion (λ (r : Row). r.id ≤ n) rows
all_below n [] h ordered = tt
all_below n (r ∷ rs) h ordered = (here (nat_cmp n r.id) refl, all_below n rs (λ i l. later i l (r.id == i) refl) ordered.1)
  where
    here : (o : Ordering) → nat_cmp n r.id ≡ o → r.id ≤ n
    here Less e = absurd (let l : n < r.id = grind (arith, nat_tests, e) in let z : true ≡ false = sym (ap is_some (first_is r rs)) ∙ h r.id l in cc)
    here Equal e = grind (arith, nat_tests, e)
    here Greater e = grind (arith, nat_tests, e)

    later : (i : ℕ) → n < i → (t : Bool) → (r.id == i) ≡ t → is_some (row_at i rs) ≡ false
    later i l true e = ap is_some (none_below i rs (subst (λ m. IsBelowAll m rs) (same_id r.id i e) ordered.0))
    later i l false e = ap (λ b. is_some (cond b (Some r.cells) (row_at i rs))) (sym e) ∙ h i l

below_more : (n : ℕ) (rows : List Row) (r : Row) → n < r.id → IsBelowAll n rows → IsBelowAll n (rows ++ r ∷ [])
below_more n [] r l h = (l, tt)
below_more n (x ∷ rows) r l h = (h.0, below_more n rows r l h.1)

pub order_more : (n : ℕ) (rows : List Row) (r : Row) → n < r.id → AllByRecursion (λ (x : Row). x.id ≤ n) rows → AreInIdOrder rows → AreInIdOrder (rows ++ r ∷ [])
order_more n [] r l all ordered = (tt, tt)
order_more n (x ∷ rows) r l all ordered = (below_more x.id rows r (let k : x.id ≤ n = all.0 in omega (arith, l, k)) ordered.0, order_more n rows r l all.1 ordered.1)

pub row_more : (n : ℕ) (rows : List Row) (r : Row) (i : ℕ) → n < r.id → AllByRecursion (λ (x : Row). x.id ≤ n) rows → row_at i (rows ++ r ∷ []) ≡ cond (r.id == i) (Some r.cells) (row_at i rows)
row_more n [] r i l all = refl
row_more n (x ∷ rows) r i l all = by (x.id == i) refl (r.id == i) refl (row_more n rows r i l all.1)
  where
    by : (s : Bool) → (x.id == i) ≡ s → (t : Bool) → (r.id == i) ≡ t → row_at i (rows ++ r ∷ []) ≡ cond (r.id == i) (Some r.cells) (row_at i rows)
        → cond s (Some x.cells) (row_at i (rows ++ r ∷ [])) ≡ cond t (Some r.cells) (cond s (Some x.cells) (row_at i rows))
    by true e true f ih = absurd (let a : x.id ≡ i = same_id x.id i e in let b : r.id ≡ i = same_id r.id i f in let k : x.id ≤ n = all.0 in omega (arith, a, b, k, l))
    by true e false f ih = refl
    by false e t f ih = ih ∙ ap (λ b. cond b (Some r.cells) (row_at i rows)) f

-- ---- other cells
abbrev pub changed : ℕ → List Data → Row → Row
changed id cells r = cond (has_id id r) (record { id = r.id; cells = cells }) r

changed_id : (id : ℕ) (cells : List Data) (r : Row) → (changed id cells r).id ≡ r.id
changed_id id cells r = by (has_id id r)
  where
    by : (b : Bool) → (let s : Row = cond b (record { id = r.id; cells = cells }) r in s.id) ≡ r.id
    by true = refl
    by false = refl

below_changed : (n id : ℕ) (cells : List Data) (rows : List Row) → IsBelowAll n rows → IsBelowAll n (map (changed id cells) rows)
below_changed n id cells [] h = tt
below_changed n id cells (r ∷ rows) h = (subst (λ m. n < m) (sym (changed_id id cells r)) h.0, below_changed n id cells rows h.1)

pub order_changed : (id : ℕ) (cells : List Data) (rows : List Row) → AreInIdOrder rows → AreInIdOrder (map (changed id cells) rows)
order_changed id cells [] h = tt
order_changed id cells (r ∷ rows) h = (subst (λ m. IsBelowAll m (map (changed id cells) rows)) (sym (changed_id id cells r)) (below_changed r.id id cells rows h.0), order_changed id cells rows h.1)

pub row_changed : (id : ℕ) (cells : List Data) (rows : List Row) (i : ℕ) → is_some (row_at id rows) ≡ true → row_at i (map (changed id cells) rows) ≡ cond (id == i) (Some cells) (row_at i rows)
row_changed id cells rows i there = at_any rows i ∙ by (id == i) refl
  where
    kept : (b : Bool) (o : Option (List Data)) → Option (List Data)
    kept b o = cond b (option_map (λ (x : List Data). cells) o) o

    at_any : (rows : List Row) (i : ℕ) → row_at i (map (changed id cells) rows) ≡ cond (id == i) (option_map (λ (x : List Data). cells) (row_at i rows)) (row_at i rows)
    at_any [] i = none (id == i)
      where
        none : (b : Bool) → None ≡ cond b (option_map (λ (x : List Data). cells) None) None
        none true = refl
        none false = refl
    at_any (r ∷ rows) i = go (has_id id r) refl (r.id == i) refl (id == i) refl (at_any rows i)
      where
        goal_rest : Bool → Option (List Data)
        goal_rest c = cond c (option_map (λ (x : List Data). cells) (row_at i rows)) (row_at i rows)

        go : (a : Bool) → has_id id r ≡ a → (b : Bool) → (r.id == i) ≡ b → (c : Bool) → (id == i) ≡ c → row_at i (map (changed id cells) rows) ≡ cond (id == i) (option_map (λ (x : List Data). cells) (row_at i rows)) (row_at i rows)
            → row_at i (cond a (record { id = r.id; cells = cells }) r ∷ map (changed id cells) rows) ≡ cond c (option_map (λ (x : List Data). cells) (cond b (Some r.cells) (row_at i rows))) (cond b (Some r.cells) (row_at i rows))
        go true x true y true z ih = ap (λ t. cond t (Some cells) (row_at i (map (changed id cells) rows))) y
        go true x true y false z ih = absurd (let p : r.id ≡ id = same_id r.id id x in let q : r.id ≡ i = same_id r.id i y in let w : (id == i) ≡ true = eq-eqb id i (sym p ∙ q) in cc)
        go true x false y c z ih = ap (λ t. cond t (Some cells) (row_at i (map (changed id cells) rows))) y ∙ ih ∙ ap goal_rest z
        go false x true y true z ih = absurd (let p : id ≡ i = same_id id i z in let q : r.id ≡ i = same_id r.id i y in let w : (r.id == id) ≡ true = eq-eqb r.id id (q ∙ sym p) in cc)
        go false x true y false z ih = ap (λ t. cond t (Some r.cells) (row_at i (map (changed id cells) rows))) y
        go false x false y c z ih = ap (λ t. cond t (Some r.cells) (row_at i (map (changed id cells) rows))) y ∙ ih ∙ ap goal_rest z

    some_of : (o : Option (List Data)) → is_some o ≡ true → option_map (λ (x : List Data). cells) o ≡ Some cells
    some_of None h = absurd cc
    some_of (Some x) h = refl

    by : (b : Bool) → (id == i) ≡ b → cond b (option_map (λ (x : List Data). cells) (row_at i rows)) (row_at i rows) ≡ cond b (Some cells) (row_at i rows)
    by false e = refl
    by true e = some_of (row_at i rows) (subst (λ n. is_some (row_at n rows) ≡ true) (same_id id i e) there)

-- ---- a row less
below_less_row : (n : ℕ) (p : Row → Bool) (rows : List Row) → IsBelowAll n rows → IsBelowAll n (filter p rows)
below_less_row n p [] h = tt
below_less_row n p (r ∷ rows) h = by (p r) (below_less_row n p rows h.1)
  where
    by : (b : Bool) → IsBelowAll n (filter p rows) → IsBelowAll n (cond b (r ∷ filter p rows) (filter p rows))
    by true k = (h.0, k)
    by false k = k

pub order_less : (p : Row → Bool) (rows : List Row) → AreInIdOrder rows → AreInIdOrder (filter p rows)
order_less p [] h = tt
order_less p (r ∷ rows) h = by (p r) (order_less p rows h.1)
  where
    by : (b : Bool) → AreInIdOrder (filter p rows) → AreInIdOrder (cond b (r ∷ filter p rows) (filter p rows))
    by true k = (below_less_row r.id p rows h.0, k)
    by false k = k

pub row_less : (id : ℕ) (rows : List Row) (i : ℕ) → row_at i (filter (λ r. not (has_id id r)) rows) ≡ cond (id == i) None (row_at i rows)
row_less id [] i = none (id == i)
  where
    nothing : Option (List Data)
    nothing = None

    none : (b : Bool) → nothing ≡ cond b nothing nothing
    none true = refl
    none false = refl
row_less id (r ∷ rows) i = go (has_id id r) refl (r.id == i) refl (id == i) refl (row_less id rows i)
  where
    rest : List Row
    rest = filter (λ r. not (has_id id r)) rows

    go : (a : Bool) → has_id id r ≡ a → (b : Bool) → (r.id == i) ≡ b → (c : Bool) → (id == i) ≡ c → row_at i (filter (λ r. not (has_id id r)) rows) ≡ cond (id == i) None (row_at i rows)
        → row_at i (cond (not a) (r ∷ filter (λ r. not (has_id id r)) rows) (filter (λ r. not (has_id id r)) rows)) ≡ cond c None (cond b (Some r.cells) (row_at i rows))
    go true x true y true z ih = ih ∙ ap (λ t. cond t None (row_at i rows)) z
    go true x true y false z ih = absurd (let p : r.id ≡ id = same_id r.id id x in let q : r.id ≡ i = same_id r.id i y in let w : (id == i) ≡ true = eq-eqb id i (sym p ∙ q) in cc)
    go true x false y c z ih = ih ∙ ap (λ t. cond t None (row_at i rows)) z
    go false x true y true z ih = absurd (let p : id ≡ i = same_id id i z in let q : r.id ≡ i = same_id r.id i y in let w : (r.id == id) ≡ true = eq-eqb r.id id (q ∙ sym p) in cc)
    go false x true y false z ih = ap (λ t. cond t (Some r.cells) (row_at i rest)) y
    go false x false y c z ih = ap (λ t. cond t (Some r.cells) (row_at i rest)) y ∙ ih ∙ ap (λ t. cond t None (row_at i rows)) z

-- a row stands in a list exactly where something stands under its number
pub has_row : (id : ℕ) (rows : List Row) → list_any (has_id id) rows ≡ is_some (row_at id rows)
has_row id [] = refl
has_row id (r ∷ rows) = by (r.id == id) (has_row id rows)
  where
    by : (b : Bool) → list_any (has_id id) rows ≡ is_some (row_at id rows) → (b || list_any (has_id id) rows) ≡ is_some (cond b (Some r.cells) (row_at id rows))
    by true ih = refl
    by false ih = ih
