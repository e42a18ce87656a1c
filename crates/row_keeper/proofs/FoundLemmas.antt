-- What the index finds.
use Rattle.std.proofs.Common.{◌≡◌, ℕ, ◌==◌, List, [], ◌∷◌, ◌++◌, filter, refl, sym, ap, ap₂, ◌∙◌, Bool, true, false, cond, ◌&&◌, ◌||◌, Option, None, Some, subst}
use Rattle.std.specs.Prelude.{bytes_eq}
use Rattle.std.specs.Cmp.{IsTotalOrder}
use Rattle.std.specs.List.{list_any, AllByRecursion}
use Rattle.std.specs.List.Sorted.{IsStrictlySortedBy}
use Rattle.std.specs.Map.{lookup, keys_of}
use Rattle.std.specs.Option.{is_some}
use Rattle.std.specs.BTreeMap.{is_at}
use Rattle.std.specs.Ordering.{nat_cmp, is_eq, ordering_reverse}
use Rattle.std.specs.declared.cmp.Ordering.{Ordering}
use Rattle.std.specs.declared.cmp.Ordering.TheVariants.{Less, Equal, Greater}
use Rattle.std.proofs.lemmas.Bool.{eqb-true, eq-eqb, and_parts}
use Rattle.std.proofs.lemmas.Cmp.{nat_cmp_total, tied_itself}
use Rattle.std.proofs.lemmas.List.{append-nil, append_assoc}
use Rattle.std.proofs.lemmas.List.Kept.{IsStrictlySortedBy-filter}
use Rattle.std.proofs.lemmas.Map.Keys.{sorted_head, sorted_tail}
use Rattle.std.proofs.lemmas.Map.Made.{is_some-lookup}
use Rattle.std.proofs.lemmas.Map.Lookups.{btree_set_from_contains, exact_unsigned, exact_bytes}
use Rattle.std.proofs.lemmas.Map.Text.{is_eq-slice_cmp}
use Rattle.std.specs.Cmp.Lexicographic.{slice_cmp, nat_list_eq_equiv}
use Rattle.fx_types.specs.Values.{Data}
use Rattle.row_queries.specs.declared.rows.Row.{Row}
use Rattle.row_queries.specs.declared.ranges.KeyRange.{KeyRange}
use Rattle.row_queries.specs.Ranges.{in_range}
use Rattle.row_keeper.specs.declared.index.Mark.{Mark}
use Rattle.row_keeper.specs.declared.row_slots.Slot.{Slot}
use Rattle.row_keeper.specs.Covered.{Agrees, covers, has_entry, key_at, lie_in}
use Rattle.row_keeper.specs.Entries.{IndexEntry, Entries, entry_cmp, is_now, now_in, among, hits, hits_in, lies_at}
use Rattle.std.specs.Prelude.{option_to_list}
use Rattle.row_keeper.specs.Found.{row_under, rows_of_ids}
use Rattle.row_keeper.specs.Slots.{cells_now, now_at, now_in_slot, row_before, rows_now}
use Rattle.row_keeper.proofs.MarkLemmas.{entry_total, same_entry}
use Rattle.fx_core.proofs.Spelled.{same_truth}

-- an entry of a row now, in the range, is a hit
hit_from : (column : ℕ) (r : KeyRange) (es : Entries) (q : IndexEntry) → q.0.0 ≡ column → now_in es q ≡ true → in_range q.0.1 r ≡ true → hits column r es q.1 ≡ true
hit_from column r [] q c h g = absurd cc
hit_from column r (e ∷ es) q c h g = go (λ f. hit_from column r es q c f g) (is_at (entry_cmp q) e.0) refl (lies_at column r e) refl
  where
    rest : (b c : Bool) → c ≡ true → (b || c) ≡ true
    rest true c f = refl
    rest false c f = f

    lies_here : q ≡ e.0 → lies_at column r e ≡ true
    lies_here same = subst (λ (p : IndexEntry). ((p.0.0 == column) && in_range p.0.1 r) ≡ true) same (ap₂ (λ x y. x && y) (eq-eqb q.0.0 column c) g)

    go : (now_in es q ≡ true → hits column r es q.1 ≡ true) → (t : Bool) → is_at (entry_cmp q) e.0 ≡ t → (u : Bool) → lies_at column r e ≡ u → among (cond u (e ∷ filter (lies_at column r) es) (filter (lies_at column r) es)) q.1 ≡ true
    go ih true f false u = absurd (let z : lies_at column r e ≡ true = lies_here (same_entry q e.0 f) in cc)
    go ih true f true u =
        let same : q ≡ e.0 = same_entry q e.0 f in
        let is : e.1.is ≡ true = subst (λ b. is_now (cond b (Some e.1) (lookup (is_at (entry_cmp q)) es)) ≡ true) f h in
        let it : (e.0.1 == q.1) ≡ true = eq-eqb e.0.1 q.1 (sym (ap (λ (p : IndexEntry). p.1) same)) in
        ap₂ (λ x y. (x && y) || among (filter (lies_at column r) es) q.1) is it
    go ih false f true u = rest (e.1.is && (e.0.1 == q.1)) (hits column r es q.1) (ih (subst (λ b. is_now (cond b (Some e.1) (lookup (is_at (entry_cmp q)) es)) ≡ true) f h))
    go ih false f false u = ih (subst (λ b. is_now (cond b (Some e.1) (lookup (is_at (entry_cmp q)) es)) ≡ true) f h)

pub less_not_at : (o : Ordering) → o ≡ Less → is_eq (ordering_reverse o) ≡ false
less_not_at Less h = refl
less_not_at Equal h = absurd cc
less_not_at Greater h = absurd cc

-- an entry after the first is not at the first
not_at_first : {K X : Type 0} {C : K → K → Ordering} → IsTotalOrder C → (e : K) (es : List (K × X)) (q : K) → AllByRecursion (λ y. C e y ≡ Less) (keys_of es) → is_some (lookup (is_at (C q)) es) ≡ true → is_at (C q) e ≡ false
not_at_first total e [] q all h = absurd cc
not_at_first {K} {X} {C} total e (x ∷ es) q all h = go (not_at_first total e es q all.1) (is_at (C q) x.0) refl
  where
    equal : (o : Ordering) → is_eq o ≡ true → o ≡ Equal
    equal Less p = absurd cc
    equal Equal p = refl
    equal Greater p = absurd cc

    go : (is_some (lookup (is_at (C q)) es) ≡ true → is_at (C q) e ≡ false) → (t : Bool) → is_at (C q) x.0 ≡ t → is_at (C q) e ≡ false
    go ih false f = ih (subst (λ b. is_some (cond b (Some x.1) (lookup (is_at (C q)) es)) ≡ true) f h)
    go ih true f = ap is_eq (total.congr q x.0 e (equal (C q x.0) f) ∙ total.antisymm x.0 e) ∙ less_not_at (C e x.0) all.0

some_now : (o : Option Mark) → is_now o ≡ true → is_some o ≡ true
some_now None h = absurd cc
some_now (Some m) h = refl

-- a hit is an entry of a row now, of the column and in the range
abbrev Hit : ℕ → KeyRange → Entries → ℕ → Type 0
Hit column r es i = (k : ℕ × List ℕ) × ((now_in es (k, i) ≡ true) × (((k.0 == column) && in_range k.1 r) ≡ true))

from_hit : (column : ℕ) (r : KeyRange) (es : Entries) (i : ℕ) → IsStrictlySortedBy entry_cmp (keys_of es) → hits column r es i ≡ true → Hit column r es i
from_hit column r [] i sorted h = absurd cc
from_hit column r (e ∷ es) i sorted h = go (from_hit column r es i (sorted_tail entry_cmp e.0 (keys_of es) sorted)) (lies_at column r e) refl
  where
    later : Hit column r es i → Hit column r (e ∷ es) i
    later f = (f.0, (subst (λ b. is_now (cond b (Some e.1) (lookup (is_at (entry_cmp (f.0, i))) es)) ≡ true) (sym (not_at_first entry_total e.0 es (f.0, i) (sorted_head entry_cmp e.0 (keys_of es) sorted) (some_now _ f.1.0))) f.1.0, f.1.1))

    here : (e.1.is ≡ true) → (e.0.1 == i) ≡ true → lies_at column r e ≡ true → Hit column r (e ∷ es) i
    here is it g =
        let same : e.0.1 ≡ i = eqb-true e.0.1 i it in
        let at : is_at (entry_cmp (e.0.0, i)) e.0 ≡ true = subst (λ n. is_at (entry_cmp (e.0.0, n)) e.0 ≡ true) same (ap is_eq (tied_itself entry_total e.0)) in
        (e.0.0, (subst (λ b. is_now (cond b (Some e.1) (lookup (is_at (entry_cmp (e.0.0, i))) es)) ≡ true) (sym at) is, g))

    choose : (hits column r es i ≡ true → Hit column r (e ∷ es) i) → lies_at column r e ≡ true → (a b c : Bool) → e.1.is ≡ a → (e.0.1 == i) ≡ b → hits column r es i ≡ c → ((a && b) || c) ≡ true → Hit column r (e ∷ es) i
    choose ih g true true c x y z p = here x y g
    choose ih g true false true x y z p = ih z
    choose ih g false b true x y z p = ih z
    choose ih g true false false x y z p = absurd cc
    choose ih g false b false x y z p = absurd cc

    go : (hits column r es i ≡ true → Hit column r es i) → (u : Bool) → lies_at column r e ≡ u → Hit column r (e ∷ es) i
    go ih false u = later (ih (subst (λ b. among (cond b (e ∷ filter (lies_at column r) es) (filter (lies_at column r) es)) i ≡ true) u h))
    go ih true u = choose (λ z. later (ih z)) u e.1.is (e.0.1 == i) (hits column r es i) refl refl refl (subst (λ b. among (cond b (e ∷ filter (lies_at column r) es) (filter (lies_at column r) es)) i ≡ true) u h)

-- whether cells under a number lie in a range
abbrev lies_in : ℕ → KeyRange → ℕ → Option (List Data) → Bool
lies_in column r i None = false
lies_in column r i (Some cells) = in_range (key_at i cells column) r

pub bytes_same : (xs ys : List ℕ) → bytes_eq xs ys ≡ true → xs ≡ ys
bytes_same xs ys h = exact_bytes xs ys (equal (slice_cmp nat_cmp xs ys) (is_eq-slice_cmp xs ys ∙ h))
  where
    equal : (o : Ordering) → is_eq o ≡ true → o ≡ Equal
    equal Less p = absurd cc
    equal Equal p = refl
    equal Greater p = absurd cc

-- a range of a covered column is hit by a number exactly where its row's key lies there
hit_is : (covered : List ℕ) (column : ℕ) (rows : List (ℕ × Slot)) (es : Entries) → covers covered column ≡ true → Agrees covered rows es → IsStrictlySortedBy entry_cmp (keys_of es) → (r : KeyRange) (i : ℕ) → hits column r es i ≡ lies_in column r i (now_at rows i)
hit_is covered column rows es has agrees sorted r i = same_truth (hits column r es i) (lies_in column r i (now_at rows i)) to back
  where
    to_of : (o : Option (List Data)) (k : ℕ × List ℕ) → k.0 ≡ column → has_entry (k, i) o ≡ true → in_range k.1 r ≡ true → lies_in column r i o ≡ true
    to_of None k c h g = absurd cc
    to_of (Some cells) k c h g = subst (λ x. in_range x r ≡ true) (sym (bytes_same _ k.1 (ap (λ m. bytes_eq (key_at i cells m) k.1) (sym c) ∙ h))) g

    to : hits column r es i ≡ true → lies_in column r i (now_at rows i) ≡ true
    to h =
        let f = from_hit column r es i sorted h in
        let g = and_parts (f.0.0 == column) (in_range f.0.1 r) f.1.1 in
        to_of (now_at rows i) f.0 (eqb-true f.0.0 column g.0) (and_parts (covers covered f.0.0) _ (sym (agrees.0 (f.0, i)) ∙ f.1.0)).1 g.1

    back_of : (o : Option (List Data)) → now_at rows i ≡ o → lies_in column r i o ≡ true → hits column r es i ≡ true
    back_of None e h = absurd cc
    back_of (Some cells) e h = hit_from column r es ((column, key_at i cells column), i) refl
        (agrees.0 ((column, key_at i cells column), i) ∙ ap₂ (λ x y. x && y) has (ap (has_entry ((column, key_at i cells column), i)) e ∙ nat_list_eq_equiv.refl (key_at i cells column))) h

    back : lies_in column r i (now_at rows i) ≡ true → hits column r es i ≡ true
    back h = back_of (now_at rows i) refl h

-- the numbers that are hit are those of the rows in the ranges
pub hits_are : (covered : List ℕ) (column : ℕ) (rows : List (ℕ × Slot)) (es : Entries) → covers covered column ≡ true → Agrees covered rows es → IsStrictlySortedBy entry_cmp (keys_of es) → (rs : List KeyRange) (i : ℕ) → hits_in column rs es i ≡ lie_in column rs i (now_at rows i)
hits_are covered column rows es has agrees sorted [] i = none (now_at rows i)
  where
    none : (o : Option (List Data)) → false ≡ lie_in column [] i o
    none None = refl
    none (Some cells) = refl
hits_are covered column rows es has agrees sorted (r ∷ rs) i = ap₂ (λ x y. x || y) (hit_is covered column rows es has agrees sorted r i) (hits_are covered column rows es has agrees sorted rs i) ∙ more (now_at rows i)
  where
    more : (o : Option (List Data)) → (lies_in column r i o || lie_in column rs i o) ≡ lie_in column (r ∷ rs) i o
    more None = refl
    more (Some cells) = refl

below_not_at : (a b : ℕ) → nat_cmp a b ≡ Less → is_at (nat_cmp b) a ≡ false
below_not_at a b h = ap is_eq (nat_cmp_total.antisymm b a) ∙ less_not_at (nat_cmp a b) h

abbrev pub Owns : List (ℕ × Slot) → List (ℕ × Slot) → Type 0
Owns rows part = AllByRecursion (λ x. lookup (is_at (nat_cmp x.0)) rows ≡ Some x.1) part

owns_more : (e : ℕ × Slot) (rest part : List (ℕ × Slot)) → AllByRecursion (λ y. nat_cmp e.0 y ≡ Less) (keys_of part) → Owns rest part → Owns (e ∷ rest) part
owns_more e rest [] below owns = tt
owns_more e rest (x ∷ part) below owns = (subst (λ b. cond b (Some e.1) (lookup (is_at (nat_cmp x.0)) rest) ≡ Some x.1) (sym (below_not_at e.0 x.0 below.0)) owns.0, owns_more e rest part below.1 owns.1)

-- each entry is what is found at its number
pub owns_all : (rows : List (ℕ × Slot)) → IsStrictlySortedBy nat_cmp (keys_of rows) → Owns rows rows
owns_all [] sorted = tt
owns_all (e ∷ rest) sorted = (
  subst (λ b. cond b (Some e.1) (lookup (is_at (nat_cmp e.0)) rest) ≡ Some e.1) (sym (ap is_eq (tied_itself nat_cmp_total e.0))) refl,
  owns_more e rest rest (sorted_head nat_cmp e.0 (keys_of rest) sorted) (owns_all rest (sorted_tail nat_cmp e.0 (keys_of rest) sorted)),
)

-- the rows of the numbers that a test picks, which looks at what stands under them
pub picked_part : (P : ℕ → Option (List Data) → Bool) (p : Row → Bool) → ((i : ℕ) → P i None ≡ false) → ((i : ℕ) (cells : List Data) → P i (Some cells) ≡ p (record { id = i; cells = cells }))
    → (rows part : List (ℕ × Slot)) → Owns rows part → rows_of_ids rows (filter (λ i. P i (now_at rows i)) (keys_of part)) ≡ filter p (rows_now part)
picked_part P p none some rows [] owns = refl
picked_part P p none some rows (e ∷ part) owns = go (cells_now e.1) (ap now_in_slot owns.0) (picked_part P p none some rows part owns.1)
  where
    ids : List ℕ
    ids = filter (λ i. P i (now_at rows i)) (keys_of part)

    before : (o : Option (List Data)) (l : List Row) → option_to_list (row_under e.0 o) ++ l ≡ row_before e.0 o l
    before None l = refl
    before (Some cells) l = refl

    moved : (b : Bool) → rows_of_ids rows (cond b (e.0 ∷ ids) ids) ≡ cond b (row_before e.0 (now_at rows e.0) (rows_of_ids rows ids)) (rows_of_ids rows ids)
    moved true = before (now_at rows e.0) (rows_of_ids rows ids)
    moved false = refl

    go : (o : Option (List Data)) → now_at rows e.0 ≡ o → rows_of_ids rows ids ≡ filter p (rows_now part)
        → rows_of_ids rows (cond (P e.0 (now_at rows e.0)) (e.0 ∷ ids) ids) ≡ filter p (row_before e.0 o (rows_now part))
    go None f ih = ap (λ b. rows_of_ids rows (cond b (e.0 ∷ ids) ids)) (ap (P e.0) f ∙ none e.0) ∙ ih
    go (Some cells) f ih = moved (P e.0 (now_at rows e.0))
        ∙ ap₂ (λ b o. cond b (row_before e.0 o (rows_of_ids rows ids)) (rows_of_ids rows ids)) (ap (P e.0) f ∙ some e.0 cells) f
        ∙ ap (λ l. cond (p (record { id = e.0; cells = cells })) (record { id = e.0; cells = cells } ∷ l) l) ih

nat_same : (a b : ℕ) → is_at (nat_cmp a) b ≡ true → a ≡ b
nat_same a b h = exact_unsigned a b (equal (nat_cmp a b) h)
  where
    equal : (o : Ordering) → is_eq o ≡ true → o ≡ Equal
    equal Less p = absurd cc
    equal Equal p = refl
    equal Greater p = absurd cc

pub any_kept : (P : ℕ → Bool) (q : ℕ) (ks : List ℕ) → list_any (is_at (nat_cmp q)) (filter P ks) ≡ (P q && list_any (is_at (nat_cmp q)) ks)
any_kept P q [] = none (P q)
  where
    none : (b : Bool) → false ≡ (b && false)
    none true = refl
    none false = refl
any_kept P q (k ∷ ks) = go (P k) refl (is_at (nat_cmp q) k) refl (any_kept P q ks)
  where
    some : (b c : Bool) → b ≡ true → true ≡ (b && true)
    some b c h = rw h refl

    no : (b c d : Bool) → b ≡ false → c ≡ (b && d) → c ≡ (b && true)
    no b c d h f = rw h (f ∙ ap (λ x. x && d) h)

    go : (t : Bool) → P k ≡ t → (u : Bool) → is_at (nat_cmp q) k ≡ u → list_any (is_at (nat_cmp q)) (filter P ks) ≡ (P q && list_any (is_at (nat_cmp q)) ks)
        → list_any (is_at (nat_cmp q)) (cond t (k ∷ filter P ks) (filter P ks)) ≡ (P q && (u || list_any (is_at (nat_cmp q)) ks))
    go true f true g ih = ap (λ b. b || list_any (is_at (nat_cmp q)) (filter P ks)) g ∙ some (P q) true (ap P (nat_same q k g) ∙ f)
    go true f false g ih = ap (λ b. b || list_any (is_at (nat_cmp q)) (filter P ks)) g ∙ ih
    go false f true g ih = no (P q) _ _ (ap P (nat_same q k g) ∙ f) ih
    go false f false g ih = ih

-- rising numbers that are those of rows which a test picks
pub ids_are : (P : ℕ → Option (List Data) → Bool) → ((i : ℕ) → P i None ≡ false) → (rows : List (ℕ × Slot)) (ids : List ℕ) → IsStrictlySortedBy nat_cmp (keys_of rows) → IsStrictlySortedBy nat_cmp ids
    → ((i : ℕ) → list_any (is_at (nat_cmp i)) ids ≡ P i (now_at rows i)) → ids ≡ filter (λ i. P i (now_at rows i)) (keys_of rows)
ids_are P none rows ids sorted rising has =
    btree_set_from_contains nat_cmp_total (record { keys = ids }) (record { keys = filter Q (keys_of rows) }) rising (IsStrictlySortedBy-filter nat_cmp Q (keys_of rows) sorted) same exact_unsigned
  where
    Q : ℕ → Bool
    Q i = P i (now_at rows i)

    there : (i : ℕ) (o : Option Slot) → P i (now_in_slot o) ≡ (P i (now_in_slot o) && is_some o)
    there i None = none i ∙ sym (ap (λ b. b && false) (none i))
    there i (Some s) = right (P i (now_in_slot (Some s)))
      where
        right : (b : Bool) → b ≡ (b && true)
        right true = refl
        right false = refl

    same : (i : ℕ) → list_any (is_at (nat_cmp i)) ids ≡ list_any (is_at (nat_cmp i)) (filter Q (keys_of rows))
    same i = has i ∙ there i (lookup (is_at (nat_cmp i)) rows) ∙ ap (λ b. Q i && b) (is_some-lookup (is_at (nat_cmp i)) rows) ∙ sym (any_kept Q i (keys_of rows))

-- the rows of rising numbers, which are those that a test picks
pub rows_found : (P : ℕ → Option (List Data) → Bool) (p : Row → Bool) → ((i : ℕ) → P i None ≡ false) → ((i : ℕ) (cells : List Data) → P i (Some cells) ≡ p (record { id = i; cells = cells }))
    → (rows : List (ℕ × Slot)) (ids : List ℕ) → IsStrictlySortedBy nat_cmp (keys_of rows) → IsStrictlySortedBy nat_cmp ids
    → ((i : ℕ) → list_any (is_at (nat_cmp i)) ids ≡ P i (now_at rows i)) → rows_of_ids rows ids ≡ filter p (rows_now rows)
rows_found P p none some rows ids sorted rising has =
    ap (rows_of_ids rows) (ids_are P none rows ids sorted rising has) ∙ picked_part P p none some rows rows (owns_all rows sorted)

-- the rows of one number more
pub rows_of_more : (rows : List (ℕ × Slot)) (ids : List ℕ) (i : ℕ) → rows_of_ids rows (ids ++ i ∷ []) ≡ rows_of_ids rows ids ++ option_to_list (row_under i (now_at rows i))
rows_of_more rows [] i = append-nil (option_to_list (row_under i (now_at rows i)))
rows_of_more rows (k ∷ ids) i =
    ap (λ l. option_to_list (row_under k (now_at rows k)) ++ l) (rows_of_more rows ids i)
    ∙ sym (append_assoc (option_to_list (row_under k (now_at rows k))) (rows_of_ids rows ids) (option_to_list (row_under i (now_at rows i))))
