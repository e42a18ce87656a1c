-- Keys are the same where their bytes are.
use Rattle.std.proofs.Common.{◌≡◌, ℕ, List, [], ◌∷◌, map, get_or, Bool, true, false, not, ◌&&◌, Option, Some, None, refl, ap, sym, ◌∙◌, cond, ◌++◌}
use Rattle.std.specs.Prelude.{flat_map}
use Rattle.std.specs.List.{All, filter, find}
use Rattle.std.specs.Cmp.{IsTotalOrder}
use Rattle.std.specs.Cmp.Lexicographic.{lists_total, nat_list_cmp_total, slice_cmp}
use Rattle.std.specs.Ordering.{nat_cmp, is_eq, ordering_reverse, ordering_then}
use Rattle.std.specs.declared.alloc.Global.{Global}
use Rattle.std.specs.declared.cmp.Ordering.{Ordering}
use Rattle.std.specs.declared.cmp.Ordering.TheVariants.{Less, Equal, Greater}
use Rattle.std.specs.declared.vec.Vec.{Vec}
use Rattle.std.proofs.lemmas.List.Elements.{All-cons, All-head, All-map, All-nil, All-tail, All-weaker}
use Rattle.fx_types.specs.Values.{Data, blank, number, text, boolean, date, rec, tab, fault}
use Rattle.fx_tables.specs.Groups.{CanGroup, firsts_of, is_same_key, key_of, value_of}
use Rattle.fx_tables.specs.Unions.{is_fault}
use Rattle.fx_value.specs.Columns.{Row}
use Rattle.fx_value.specs.Keys.{IsProper, KeysOrder, key_bytes}
use Rattle.fx_value.specs.Order.{AreOfOneType, IsScalar, order}
use Rattle.fx_value.specs.Ordered.{AreKeys}
use Rattle.fx_group.specs.Buckets.{HasKey, bytes_of, bytes_order, firsts_by, group_by, has_bytes, has_same_bytes, items_of}
use Rattle.fx_group.proofs.Firsts.{all_firsts}

bytes_total : IsTotalOrder bytes_order
bytes_total = lists_total nat_list_cmp_total

pub equal_if : (o : Ordering) → is_eq o ≡ true → o ≡ Equal
equal_if Less e = absurd cc
equal_if Equal e = refl
equal_if Greater e = absurd cc

reversed_equal : (o : Ordering) → is_eq (ordering_reverse o) ≡ is_eq o
reversed_equal Less = refl
reversed_equal Equal = refl
reversed_equal Greater = refl

-- ---- what an order doesn't tell apart

pub ties_turn : {K : Type 0} {R : K → K → Ordering} → IsTotalOrder R → (x y : K) → is_eq (R x y) ≡ is_eq (R y x)
ties_turn {R = R} o x y = ap is_eq (o.antisymm x y) ∙ reversed_equal (R y x)

pub ties_meet : {K : Type 0} {R : K → K → Ordering} → IsTotalOrder R → (x y z : K) → is_eq (R x y) ≡ true → is_eq (R x z) ≡ is_eq (R y z)
ties_meet {R = R} o x y z e = ap is_eq (o.congr x y z (equal_if (R x y) e))

pub ties_itself : {K : Type 0} {R : K → K → Ordering} → IsTotalOrder R → (x : K) → is_eq (R x x) ≡ true
ties_itself {R = R} o x = self (R x x) (o.antisymm x x)
  where
    self : (p : Ordering) → p ≡ ordering_reverse p → is_eq p ≡ true
    self Less e = absurd cc
    self Equal e = refl
    self Greater e = absurd cc

-- ---- the same bytes

-- rows of the same bytes have both these bytes, or neither
pub bytes_meet : (ns : List (List ℕ)) (k : List (List ℕ)) (r s : Row) → has_same_bytes ns r s ≡ true → has_bytes ns k r ≡ has_bytes ns k s
bytes_meet ns k r s e = ties_meet bytes_total (bytes_of ns r) (bytes_of ns s) k e

-- a row has the same bytes as others that are equal
pub equal_bytes : (ns : List (List ℕ)) (j k : List (List ℕ)) → is_eq (bytes_order j k) ≡ true → (r : Row) → has_bytes ns j r ≡ has_bytes ns k r
equal_bytes ns j k e r =
    ties_turn bytes_total (bytes_of ns r) j ∙ ties_meet bytes_total j k (bytes_of ns r) e ∙ ties_turn bytes_total k (bytes_of ns r)

pub same_turns : (ns : List (List ℕ)) (r s : Row) → has_same_bytes ns r s ≡ has_same_bytes ns s r
same_turns ns r s = ties_turn bytes_total (bytes_of ns r) (bytes_of ns s)

pub own_bytes : (ns : List (List ℕ)) (r : Row) → has_same_bytes ns r r ≡ true
own_bytes ns r = ties_itself bytes_total (bytes_of ns r)

-- rows of the same bytes as one have the same bytes
pub same_meets : (ns : List (List ℕ)) (f g r : Row) → has_same_bytes ns f r ≡ true → has_same_bytes ns g r ≡ true → has_same_bytes ns f g ≡ true
same_meets ns f g r h k = bytes_meet ns (bytes_of ns g) f r h ∙ same_turns ns r g ∙ k

-- bytes in vectors
pub order_seen : (xs ys : List (Vec ℕ Global)) → slice_cmp (λ (v w : Vec ℕ Global). slice_cmp nat_cmp v.items w.items) xs ys ≡ bytes_order (items_of xs) (items_of ys)
order_seen [] [] = refl
order_seen [] (y ∷ ys) = refl
order_seen (x ∷ xs) [] = refl
order_seen (x ∷ xs) (y ∷ ys) = ap (ordering_then (slice_cmp nat_cmp x.items y.items)) (order_seen xs ys)

-- ---- bytes and values

pub both_equal : (o p : Ordering) → is_eq (ordering_then o p) ≡ (is_eq o && is_eq p)
both_equal Less p = refl
both_equal Equal p = refl
both_equal Greater p = refl

-- bytes tell keys of one type
pub bytes_tell : KeysOrder → (ns : List (List ℕ)) (r s : Row) → All (λ n. AreOfOneType (value_of n r) (value_of n s)) ns →
    All (λ n. IsProper (value_of n r)) ns → All (λ n. IsProper (value_of n s)) ns → has_same_bytes ns r s ≡ is_same_key (key_of ns r) (key_of ns s)
bytes_tell ko [] r s t p q = refl
bytes_tell ko (n ∷ ns) r s t p q =
    let first = ko (value_of n r) (value_of n s) (All-head (λ m. AreOfOneType (value_of m r) (value_of m s)) n ns t) (All-head (λ m. IsProper (value_of m r)) n ns p) (All-head (λ m. IsProper (value_of m s)) n ns q) in
    let rest = bytes_tell ko ns r s (All-tail (λ m. AreOfOneType (value_of m r) (value_of m s)) n ns t) (All-tail (λ m. IsProper (value_of m r)) n ns p) (All-tail (λ m. IsProper (value_of m s)) n ns q) in
    both_equal (slice_cmp nat_cmp (key_bytes (value_of n r)) (key_bytes (value_of n s))) (bytes_order (bytes_of ns r) (bytes_of ns s))
    ∙ (λ i. is_eq (first i) && rest i)

-- ---- what the keys of rows without an error are

none_all : {A : Type 0} (p : A → Bool) (xs : List A) → find p xs ≡ None → All (λ x. p x ≡ false) xs
none_all p [] e = All-nil (λ x. p x ≡ false)
none_all p (x ∷ xs) e = by (p x) refl e (none_all p xs)
  where
    by : (b : Bool) → p x ≡ b → cond b (Some x) (find p xs) ≡ None → (find p xs ≡ None → All (λ y. p y ≡ false) xs) → All (λ y. p y ≡ false) (x ∷ xs)
    by true q e k = absurd cc
    by false q e k = All-cons (λ y. p y ≡ false) x xs q (k e)

all_none : {A : Type 0} (p : A → Bool) (xs : List A) → All (λ x. p x ≡ false) xs → find p xs ≡ None
all_none p [] h = refl
all_none p (x ∷ xs) h = ap (λ b. cond b (Some x) (find p xs)) (All-head (λ y. p y ≡ false) x xs h) ∙ all_none p xs (All-tail (λ y. p y ≡ false) x xs h)

none_parts : {A : Type 0} (p : A → Bool) (xs ys : List A) → find p (xs ++ ys) ≡ None → (find p xs ≡ None) × (find p ys ≡ None)
none_parts p [] ys e = (refl, e)
none_parts p (x ∷ xs) ys e = by (p x) e (none_parts p xs ys)
  where
    by : (b : Bool) → cond b (Some x) (find p (xs ++ ys)) ≡ None → (find p (xs ++ ys) ≡ None → (find p xs ≡ None) × (find p ys ≡ None)) →
        (cond b (Some x) (find p xs) ≡ None) × (find p ys ≡ None)
    by true e k = absurd cc
    by false e k = k e

pub all_unmapped : {X Y : Type 0} (P : X → Type 0) (f : Y → X) (ys : List Y) → All P (map f ys) → All (λ y. P (f y)) ys
all_unmapped P f [] h = All-nil (λ y. P (f y))
all_unmapped P f (y ∷ ys) h = All-cons (λ z. P (f z)) y ys (All-head P (f y) (map f ys) h) (all_unmapped P f ys (All-tail P (f y) (map f ys) h))

rows_faultless : (ns : List (List ℕ)) (rows : List Row) → find is_fault (flat_map (key_of ns) rows) ≡ None → All (λ r. All (λ n. is_fault (value_of n r) ≡ false) ns) rows
rows_faultless ns [] e = All-nil (λ r. All (λ n. is_fault (value_of n r) ≡ false) ns)
rows_faultless ns (r ∷ rows) e =
    let parts = none_parts is_fault (key_of ns r) (flat_map (key_of ns) rows) e in
    All-cons (λ s. All (λ n. is_fault (value_of n s) ≡ false) ns) r rows
    (all_unmapped (λ d. is_fault d ≡ false) (λ n. value_of n r) ns (none_all is_fault (key_of ns r) parts.0)) (rows_faultless ns rows parts.1)

-- the values of each key are scalars of one type
pub all_keys : (ns : List (List ℕ)) (g : List ℕ) (rows : List Row) → CanGroup ns g rows → find is_fault (flat_map (key_of ns) rows) ≡ None → All (λ n. AreKeys (map (value_of n) rows)) ns
all_keys ns g rows can e =
    let free = rows_faultless ns rows e in
    λ k m lk. can.keys k m lk (all_none is_fault (map (value_of (get_or ns k m)) rows)
    (All-map (λ d. is_fault d ≡ false) (value_of (get_or ns k m)) rows (λ i d li. free i d li k m lk)))

of_one_type : (n : List ℕ) (rows : List Row) → AreKeys (map (value_of n) rows) → All (λ r. All (λ s. AreOfOneType (value_of n r) (value_of n s)) rows) rows
of_one_type n rows h =
    All-weaker (λ r. All (AreOfOneType (value_of n r)) (map (value_of n) rows)) (λ r. All (λ s. AreOfOneType (value_of n r) (value_of n s)) rows)
    (λ r k. all_unmapped (AreOfOneType (value_of n r)) (value_of n) rows k) rows
    (all_unmapped (λ a. All (AreOfOneType a) (map (value_of n) rows)) (value_of n) rows h)

own_scalar : (d : Data) → AreOfOneType d d → IsScalar d
own_scalar blank h = tt
own_scalar (number z) h = tt
own_scalar (text cs) h = tt
own_scalar (boolean b) h = tt
own_scalar (date z) h = tt
own_scalar (rec fs) h = absurd h
own_scalar (tab rs) h = absurd h
own_scalar (fault k cs) h = absurd h

pub have_keys : (ns : List (List ℕ)) (rows : List Row) → All (λ n. AreKeys (map (value_of n) rows)) ns → All (HasKey ns) rows
have_keys ns rows keys =
    λ i d li. λ k m lk. own_scalar (value_of (get_or ns k m) (get_or rows i d)) (of_one_type (get_or ns k m) rows (keys k m lk) i d li i d li)

-- bytes tell the keys of each row and each
abbrev pub BytesTell : List (List ℕ) → List Row → Type 0
BytesTell ns rows = All (λ r. All (λ s. has_same_bytes ns r s ≡ is_same_key (key_of ns r) (key_of ns s)) rows) rows

pub all_tell : KeysOrder → (ns : List (List ℕ)) (rows : List Row) → All (λ n. AreKeys (map (value_of n) rows)) ns → All (λ r. All (λ n. IsProper (value_of n r)) ns) rows → BytesTell ns rows
all_tell ko ns rows keys proper =
    λ i d li. λ j e lj. bytes_tell ko ns (get_or rows i d) (get_or rows j e)
    (λ k m lk. of_one_type (get_or ns k m) rows (keys k m lk) i d li j e lj) (proper i d li) (proper j e lj)

-- ---- the same firsts and groups by tests that agree

pub filter_alike : {A : Type 0} (p q : A → Bool) (xs : List A) → All (λ x. p x ≡ q x) xs → filter p xs ≡ filter q xs
filter_alike p q [] h = refl
filter_alike p q (x ∷ xs) h = λ i. cond (All-head (λ y. p y ≡ q y) x xs h i) (x ∷ filter_alike p q xs (All-tail (λ y. p y ≡ q y) x xs h) i) (filter_alike p q xs (All-tail (λ y. p y ≡ q y) x xs h) i)

not_all : {A : Type 0} (p q : A → Bool) (ys : List A) → All (λ y. p y ≡ q y) ys → All (λ y. not (p y) ≡ not (q y)) ys
not_all p q ys h = All-weaker (λ y. p y ≡ q y) (λ y. not (p y) ≡ not (q y)) (λ y e. ap not e) ys h

firsts_alike : {A : Type 0} (p q : A → A → Bool) (xs : List A) → All (λ x. All (λ y. p x y ≡ q x y) xs) xs → firsts_by p xs ≡ firsts_by q xs
firsts_alike p q [] h = refl
firsts_alike p q (x ∷ xs) h =
    let behind = All-weaker (λ z. All (λ y. p z y ≡ q z y) (x ∷ xs)) (λ z. All (λ y. p z y ≡ q z y) xs) (λ z k. All-tail (λ y. p z y ≡ q z y) x xs k) xs (All-tail (λ z. All (λ y. p z y ≡ q z y) (x ∷ xs)) x xs h) in
    let here = All-tail (λ y. p x y ≡ q x y) x xs (All-head (λ z. All (λ y. p z y ≡ q z y) (x ∷ xs)) x xs h) in
    ap (λ zs. x ∷ filter (λ y. not (p x y)) zs) (firsts_alike p q xs behind)
    ∙ ap (λ zs. x ∷ zs) (filter_alike (λ y. not (p x y)) (λ y. not (q x y)) (firsts_by q xs) (not_all (p x) (q x) (firsts_by q xs) (all_firsts (λ y. p x y ≡ q x y) q xs here)))

pub firsts_are : (ns : List (List ℕ)) (rows : List Row) → firsts_of ns rows ≡ firsts_by (λ r s. is_same_key (key_of ns r) (key_of ns s)) rows
firsts_are ns [] = refl
firsts_are ns (r ∷ rows) = ap (λ zs. r ∷ filter (λ s. not (is_same_key (key_of ns r) (key_of ns s))) zs) (firsts_are ns rows)

-- the first row of each key is the first of its bytes
pub firsts_told : (ns : List (List ℕ)) (rows : List Row) → BytesTell ns rows → firsts_by (has_same_bytes ns) rows ≡ firsts_of ns rows
firsts_told ns rows tell = firsts_alike (has_same_bytes ns) (λ r s. is_same_key (key_of ns r) (key_of ns s)) rows tell ∙ sym (firsts_are ns rows)
