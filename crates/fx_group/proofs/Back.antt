-- Rows out of their groups again.
use Rattle.std.proofs.Common.{◌≡◌, ℕ, List, [], ◌∷◌, ◌++◌, map, get_or, length, Bool, true, false, not, ◌&&◌, bytes_eq, Option, Some, None, refl, sym, ap, subst, ◌∙◌, cond, append-nil}
use Rattle.std.specs.Prelude.{◌||◌, flat_map, unwrap_or}
use Rattle.std.specs.List.{All, filter, find, list_any}
use Rattle.std.specs.List.Sorted.{IsPermutation}
use Rattle.std.specs.Option.{IsSome}
use Rattle.std.specs.Cmp.{IsTotalOrder}
use Rattle.std.specs.Cmp.Lexicographic.{lists_total, slice_cmp}
use Rattle.std.specs.Ordering.{is_eq}
use Rattle.std.proofs.lemmas.List.Elements.{All-cons, All-filter, All-head, All-nil, All-tail, All-weaker, filter-append, filter_passes}
use Rattle.std.proofs.lemmas.List.Sorted.{IsPermutation-append_right, IsPermutation-filter_both, IsPermutation-refl, IsPermutation-trans}
use Rattle.fx_types.specs.Lookup.{item_named}
use Rattle.fx_types.specs.Rising.{AreNamesRising}
use Rattle.fx_types.specs.Values.{Data, blank}
use Rattle.fx_tables.proofs.ColumnSteps.{lacks_filter}
use Rattle.fx_tables.specs.ColumnCalls.{without_columns}
use Rattle.fx_tables.specs.Groups.{CanGroup, firsts_of, grouped_or, grouped_row, is_same_key, key_of, rows_under, ungrouped_or, value_of, with_fields}
use Rattle.fx_tables.specs.TableRows.{rows_in, table_of}
use Rattle.fx_tables.specs.Unions.{fault_or, is_fault}
use Rattle.fx_value.proofs.Widenings.{same_name}
use Rattle.fx_value.specs.Columns.{Row, fields_only, fields_without, with_field}
use Rattle.fx_value.specs.Order.{IsScalar, OrderTells, order}
use Rattle.fx_group.specs.Buckets.{HasKey, firsts_by, group_by}
use Rattle.fx_group.specs.Laws.{GroupsComeBack, HaveColumns, IsRegrouped, has_key_of}
use Rattle.fx_group.proofs.Bytes.{all_keys, both_equal, equal_if, firsts_are, have_keys, ties_itself, ties_meet, ties_turn}
use Rattle.fx_group.proofs.Firsts.{AreApart, all_firsts, any_firsts, firsts_apart}
use Rattle.fx_group.proofs.Records.{columns_out, own_with, rows_back, together, without_all, without_with}

-- ---- filters of filters

-- what passes one test passes the other
kept : {A : Type 0} (p q : A → Bool) → ((x : A) → p x ≡ true → q x ≡ true) → (xs : List A) → filter p (filter q xs) ≡ filter p xs
kept p q h [] = refl
kept p q h (x ∷ xs) = by (q x) (p x) refl refl (kept p q h xs)
  where
    by : (b c : Bool) → q x ≡ b → p x ≡ c → filter p (filter q xs) ≡ filter p xs → filter p (cond b (x ∷ filter q xs) (filter q xs)) ≡ cond c (x ∷ filter p xs) (filter p xs)
    by true c e g k = ap (λ z. cond z (x ∷ filter p (filter q xs)) (filter p (filter q xs))) g ∙ ap (λ zs. cond c (x ∷ zs) zs) k
    by false true e g k = let passes = h x g in absurd cc
    by false false e g k = k

-- what passes one test doesn't pass the other
none_kept : {A : Type 0} (p q : A → Bool) → ((x : A) → q x ≡ true → p x ≡ false) → (xs : List A) → filter p (filter q xs) ≡ []
none_kept p q h [] = refl
none_kept p q h (x ∷ xs) = by (q x) refl (none_kept p q h xs)
  where
    by : (b : Bool) → q x ≡ b → filter p (filter q xs) ≡ [] → filter p (cond b (x ∷ filter q xs) (filter q xs)) ≡ []
    by true e k = ap (λ z. cond z (x ∷ filter p (filter q xs)) (filter p (filter q xs))) (h x e) ∙ k
    by false e k = k

-- ---- all groups, one after another

-- what is the same as one is the same as what it is the same as
pub record Tells {A : Type 0} (same : A → A → Bool) : Type 0 where
  pub own : (x : A) → same x x ≡ true
  pub turns : (x y : A) → same x y ≡ same y x
  pub congr : (x y z : A) → same x y ≡ true → same x z ≡ same y z

others : {A : Type 0} (same : A → A → Bool) → Tells same → (f r s : A) → same f r ≡ false → same f s ≡ true → same r s ≡ false
others same t f r s e k = t.turns r s ∙ sym (t.congr f s r k) ∙ e

nothing : {A : Type 0} (same : A → A → Bool) → Tells same → (xs : List A) (r : A) (fs : List A) → All (λ g. same g r ≡ false) fs →
    filter (λ s. same r s) (flat_map (group_by same xs) fs) ≡ []
nothing same t xs r [] h = refl
nothing same t xs r (f ∷ fs) h =
    filter-append (λ s. same r s) (group_by same xs f) (flat_map (group_by same xs) fs)
    ∙ (λ i. none_kept (λ s. same r s) (λ s. same f s) (λ s k. others same t f r s (All-head (λ g. same g r ≡ false) f fs h) k) xs i
    ++ nothing same t xs r fs (All-tail (λ g. same g r ≡ false) f fs h) i)

-- those that are the same as one keep their order
stays : {A : Type 0} (same : A → A → Bool) → Tells same → (xs : List A) (r : A) (fs : List A) → AreApart same fs → list_any (λ f. same f r) fs ≡ true →
    filter (λ s. same r s) (flat_map (group_by same xs) fs) ≡ filter (λ s. same r s) xs
stays same t xs r [] h e = absurd cc
stays same t xs r (f ∷ fs) h e =
    filter-append (λ s. same r s) (group_by same xs f) (flat_map (group_by same xs) fs) ∙ by (same f r) refl e (stays same t xs r fs h.1)
  where
    by : (b : Bool) → same f r ≡ b → (b || list_any (λ g. same g r) fs) ≡ true → (list_any (λ g. same g r) fs ≡ true → filter (λ s. same r s) (flat_map (group_by same xs) fs) ≡ filter (λ s. same r s) xs) →
        filter (λ s. same r s) (group_by same xs f) ++ filter (λ s. same r s) (flat_map (group_by same xs) fs) ≡ filter (λ s. same r s) xs
    by true q e k =
        let here = kept (λ s. same r s) (λ s. same f s) (λ s p. t.congr f r s q ∙ p) xs in
        let apart = All-weaker (λ g. same f g ≡ false) (λ g. same g r ≡ false) (λ g p. t.turns g r ∙ sym (t.congr f r g q) ∙ p) fs h.0 in
        (λ i. here i ++ nothing same t xs r fs apart i) ∙ append-nil (filter (λ s. same r s) xs)
    by false q e k =
        let rest = k e in
        λ i. none_kept (λ s. same r s) (λ s. same f s) (λ s p. others same t f r s q p) xs i ++ rest i

groups_left : {A : Type 0} (same : A → A → Bool) → Tells same → (xs : List A) (f : A) (fs : List A) → All (λ g. same f g ≡ false) fs →
    flat_map (group_by same (filter (λ s. not (same f s)) xs)) fs ≡ flat_map (group_by same xs) fs
groups_left same t xs f [] h = refl
groups_left same t xs f (g ∷ fs) h =
    let other = All-head (λ z. same f z ≡ false) g fs h in
    let here = kept (λ s. same g s) (λ s. not (same f s)) (λ s p. ap not (t.turns f s ∙ sym (t.congr g s f p) ∙ t.turns g f ∙ other)) xs in
    λ i. here i ++ groups_left same t xs f fs (All-tail (λ z. same f z ≡ false) g fs h) i

-- each is in the group of one
spread : {A : Type 0} (same : A → A → Bool) → Tells same → (fs xs : List A) → AreApart same fs → All (λ s. list_any (λ f. same f s) fs ≡ true) xs →
    IsPermutation xs (flat_map (group_by same xs) fs)
spread same t [] [] h k = IsPermutation-refl []
spread same t [] (x ∷ xs) h k = let here = All-head (λ s. list_any (λ f. same f s) [] ≡ true) x xs k in absurd cc
spread same t (f ∷ fs) xs h k =
    let ys = filter (λ s. not (same f s)) xs in
    let passes = filter_passes (λ s. not (same f s)) xs in
    let among = All-filter (λ s. not (same f s)) (λ s. (same f s || list_any (λ g. same g s) fs) ≡ true) xs k in
    let left : All (λ s. list_any (λ g. same g s) fs ≡ true) ys =
    λ i d l. left_of (same f (get_or ys i d)) (list_any (λ g. same g (get_or ys i d)) fs) (passes i d l) (among i d l) in
    let rest = subst (IsPermutation ys) (groups_left same t xs f fs h.0) (spread same t fs ys h.1 left) in
    IsPermutation-trans xs (group_by same xs f ++ ys) (group_by same xs f ++ flat_map (group_by same xs) fs)
    (IsPermutation-filter_both (λ s. same f s) (λ s. not (same f s)) (λ s. refl) xs) (IsPermutation-append_right (group_by same xs f) ys (flat_map (group_by same xs) fs) rest)
  where
    left_of : (a b : Bool) → not a ≡ true → (a || b) ≡ true → b ≡ true
    left_of true b p q = absurd cc
    left_of false b p q = q

any_own : {A : Type 0} (same : A → A → Bool) → Tells same → (xs : List A) → All (λ r. list_any (λ f. same f r) xs ≡ true) xs
any_own same t [] = All-nil (λ r. list_any (λ f. same f r) [] ≡ true)
any_own same t (x ∷ xs) =
    All-cons (λ r. list_any (λ f. same f r) (x ∷ xs) ≡ true) x xs (ap (λ b. b || list_any (λ f. same f x) xs) (t.own x))
    (All-weaker (λ r. list_any (λ f. same f r) xs ≡ true) (λ r. list_any (λ f. same f r) (x ∷ xs) ≡ true) (λ r e. or_right (same x r) (list_any (λ f. same f r) xs) e) xs (any_own same t xs))
  where
    or_right : (a b : Bool) → b ≡ true → (a || b) ≡ true
    or_right true b e = refl
    or_right false b e = e

-- each is the same as one of the firsts
any_first : {A : Type 0} (same : A → A → Bool) → Tells same → (xs : List A) → All (λ r. list_any (λ f. same f r) (firsts_by same xs) ≡ true) xs
any_first same t xs =
    All-weaker (λ r. list_any (λ f. same f r) xs ≡ true) (λ r. list_any (λ f. same f r) (firsts_by same xs) ≡ true)
    (λ r e. any_firsts same (λ f. same f r) (λ x y p. t.congr x y r p) xs ∙ e) xs (any_own same t xs)

-- ---- keys

key_told : (ds es : List Data) → is_eq (slice_cmp order ds es) ≡ is_same_key ds es
key_told [] [] = refl
key_told [] (e ∷ es) = refl
key_told (d ∷ ds) [] = refl
key_told (d ∷ ds) (e ∷ es) = both_equal (order d e) (slice_cmp order ds es) ∙ ap (λ b. is_eq (order d e) && b) (key_told ds es)

keys_tell : IsTotalOrder order → (ns : List (List ℕ)) → Tells (has_key_of ns)
keys_tell total ns = record {
  own = λ x. sym (key_told (key_of ns x) (key_of ns x)) ∙ ties_itself lists (key_of ns x);
  turns = λ x y. sym (key_told (key_of ns x) (key_of ns y)) ∙ ties_turn lists (key_of ns x) (key_of ns y) ∙ key_told (key_of ns y) (key_of ns x);
  congr = λ x y z e. sym (key_told (key_of ns x) (key_of ns z)) ∙ ties_meet lists (key_of ns x) (key_of ns y) (key_of ns z) (key_told (key_of ns x) (key_of ns y) ∙ e) ∙ key_told (key_of ns y) (key_of ns z);
}
  where
    lists : IsTotalOrder (slice_cmp order)
    lists = lists_total total

and_first : (a b : Bool) → (a && b) ≡ true → a ≡ true
and_first true b e = refl
and_first false b e = absurd cc

and_second : (a b : Bool) → (a && b) ≡ true → b ≡ true
and_second true b e = e
and_second false b e = absurd cc

-- rows of one key have the same values under its names
values_same : OrderTells → (ns : List (List ℕ)) (f r : Row) → HasKey ns f → HasKey ns r → is_same_key (key_of ns f) (key_of ns r) ≡ true → All (λ n. value_of n f ≡ value_of n r) ns
values_same tells [] f r h k e = All-nil (λ n. value_of n f ≡ value_of n r)
values_same tells (n ∷ ns) f r h k e =
    let tied = equal_if (order (value_of n f) (value_of n r)) (and_first (is_eq (order (value_of n f) (value_of n r))) (is_same_key (key_of ns f) (key_of ns r)) e) in
    All-cons (λ m. value_of m f ≡ value_of m r) n ns
    (tells (value_of n f) (value_of n r) (All-head (λ m. IsScalar (value_of m f)) n ns h) (All-head (λ m. IsScalar (value_of m r)) n ns k) tied)
    (values_same tells ns f r (All-tail (λ m. IsScalar (value_of m f)) n ns h) (All-tail (λ m. IsScalar (value_of m r)) n ns k) (and_second (is_eq (order (value_of n f) (value_of n r))) (is_same_key (key_of ns f) (key_of ns r)) e))

same_item : (a b : Option Data) → IsSome a → IsSome b → unwrap_or a blank ≡ unwrap_or b blank → a ≡ b
same_item (Some d) (Some e) h k q = ap Some q
same_item None b h k q = absurd cc
same_item (Some d) None h k q = absurd cc

items_same : (ns : List (List ℕ)) (f r : Row) → All (λ n. IsSome (item_named n f)) ns → All (λ n. IsSome (item_named n r)) ns → All (λ n. value_of n f ≡ value_of n r) ns →
    (m : List ℕ) → list_any (bytes_eq m) ns ≡ true → item_named m f ≡ item_named m r
items_same [] f r h k e m q = absurd cc
items_same (n ∷ ns) f r h k e m q = by (bytes_eq m n) refl q (items_same ns f r (All-tail (λ z. IsSome (item_named z f)) n ns h) (All-tail (λ z. IsSome (item_named z r)) n ns k) (All-tail (λ z. value_of z f ≡ value_of z r) n ns e) m)
  where
    by : (b : Bool) → bytes_eq m n ≡ b → (b || list_any (bytes_eq m) ns) ≡ true → (list_any (bytes_eq m) ns ≡ true → item_named m f ≡ item_named m r) → item_named m f ≡ item_named m r
    by true p q' next =
        let P : List ℕ → Type 0 = λ z. item_named z f ≡ item_named z r in
        subst P (sym (same_name m n p))
        (same_item (item_named n f) (item_named n r) (All-head (λ z. IsSome (item_named z f)) n ns h) (All-head (λ z. IsSome (item_named z r)) n ns k) (All-head (λ z. value_of z f ≡ value_of z r) n ns e))
    by false p q' next = next q'

-- ---- a group's row

-- what is known of each row
pub record IsReady (ns : List (List ℕ)) (g : List ℕ) (r : Row) : Type 0 where
  pub rises : AreNamesRising r
  pub there : All (λ n. IsSome (item_named n r)) ns
  pub key : HasKey ns r
  pub lacks : item_named g r ≡ None

all_together : OrderTells → (ns : List (List ℕ)) (g : List ℕ) (f : Row) → IsReady ns g f → (zs : List Row) → All (IsReady ns g) zs → All (λ z. has_key_of ns f z ≡ true) zs →
    map (λ s. with_fields s (fields_only ns f)) (map (without_all ns) zs) ≡ zs
all_together tells ns g f p [] h k = refl
all_together tells ns g f p (z ∷ zs) h k =
    let q = All-head (IsReady ns g) z zs h in
    let values = values_same tells ns f z p.key q.key (All-head (λ x. has_key_of ns f x ≡ true) z zs k) in
    let here = together ns f z p.rises q.rises (items_same ns f z p.there q.there values) in
    let rest = all_together tells ns g f p zs (All-tail (IsReady ns g) z zs h) (All-tail (λ x. has_key_of ns f x ≡ true) z zs k) in
    λ i. here i ∷ rest i

-- the rows of a group, each with its key again
group_back : OrderTells → (ns : List (List ℕ)) (g : List ℕ) (rows : List Row) (f : Row) → IsReady ns g f → All (IsReady ns g) rows → rows_under g (grouped_row ns g rows f) ≡ group_by (has_key_of ns) rows f
group_back tells ns g rows f p h =
    let zs = group_by (has_key_of ns) rows f in
    let only = fields_only ns f in
    let inner = without_columns ns zs in
    let lacks = lacks_filter g (λ x. list_any (bytes_eq x.0) ns) f p.lacks in
    let value : value_of g (with_field g (table_of inner) only) ≡ table_of inner = ap (λ o. unwrap_or o blank) (own_with g (table_of inner) only lacks) in
    let others = without_with g (table_of inner) only lacks in
    let back = all_together tells ns g f p zs (All-filter (has_key_of ns f) (IsReady ns g) rows h) (filter_passes (has_key_of ns f) rows) in
    (λ i. map (λ s. with_fields s (others i)) (rows_in (value i))) ∙ ap (map (λ s. with_fields s only)) (rows_back inner ∙ columns_out ns zs) ∙ back

groups_back : OrderTells → (ns : List (List ℕ)) (g : List ℕ) (rows fs : List Row) → All (IsReady ns g) fs → All (IsReady ns g) rows → flat_map (rows_under g) (map (grouped_row ns g rows) fs) ≡ flat_map (group_by (has_key_of ns) rows) fs
groups_back tells ns g rows [] h k = refl
groups_back tells ns g rows (f ∷ fs) h k = λ i. group_back tells ns g rows f (All-head (IsReady ns g) f fs h) k i ++ groups_back tells ns g rows fs (All-tail (IsReady ns g) f fs h) k i

no_faults : (ns : List (List ℕ)) (g : List ℕ) (rows fs : List Row) → All (IsReady ns g) fs → find is_fault (map (value_of g) (map (grouped_row ns g rows) fs)) ≡ None
no_faults ns g rows [] h = refl
no_faults ns g rows (f ∷ fs) h =
    let p = All-head (IsReady ns g) f fs h in
    let only = fields_only ns f in
    let table = table_of (without_columns ns (group_by (has_key_of ns) rows f)) in
    let value : value_of g (with_field g table only) ≡ table = ap (λ o. unwrap_or o blank) (own_with g table only (lacks_filter g (λ x. list_any (bytes_eq x.0) ns) f p.lacks)) in
    let rest = no_faults ns g rows fs (All-tail (IsReady ns g) f fs h) in
    (λ i. cond (is_fault (value i)) (Some (value i)) (rest i))

-- ---- the law

pub come_back : IsTotalOrder order → OrderTells → GroupsComeBack
come_back total tells ns g rows can have none =
    let keys = all_keys ns g rows can none in
    let scalars = have_keys ns rows keys in
    let ready : All (IsReady ns g) rows = λ i d l. record { rises = (have i d l).0; there = (have i d l).1; key = scalars i d l; lacks = can.new i d l } in
    let firsts = firsts_of ns rows in
    let first_ready : All (IsReady ns g) firsts = subst (All (IsReady ns g)) (sym (firsts_are ns rows)) (all_firsts (IsReady ns g) (has_key_of ns) rows ready) in
    let made = map (grouped_row ns g rows) firsts in
    let back = flat_map (group_by (has_key_of ns) rows) firsts in
    let value : ungrouped_or g (rows_in (grouped_or ns g rows)) ≡ table_of back =
    ap (λ o. ungrouped_or g (rows_in (unwrap_or o (table_of made)))) none
    ∙ ap (ungrouped_or g) (rows_back made)
    ∙ (λ i. unwrap_or (no_faults ns g rows firsts first_ready i) (table_of (groups_back tells ns g rows firsts first_ready ready i))) in
    (back, value, subst (IsRegrouped ns rows) (ap (flat_map (group_by (has_key_of ns) rows)) (sym (firsts_are ns rows))) regrouped)
  where
    regrouped : IsRegrouped ns rows (flat_map (group_by (has_key_of ns) rows) (firsts_by (has_key_of ns) rows))
    regrouped = record {
      rearranged = spread (has_key_of ns) (keys_tell total ns) (firsts_by (has_key_of ns) rows) rows (firsts_apart (has_key_of ns) rows) (any_first (has_key_of ns) (keys_tell total ns) rows);
      stable = All-weaker (λ r. list_any (λ f. has_key_of ns f r) (firsts_by (has_key_of ns) rows) ≡ true) (λ r. filter (has_key_of ns r) (flat_map (group_by (has_key_of ns) rows) (firsts_by (has_key_of ns) rows)) ≡ filter (has_key_of ns r) rows)
          (λ r e. stays (has_key_of ns) (keys_tell total ns) rows r (firsts_by (has_key_of ns) rows) (firsts_apart (has_key_of ns) rows) e) rows (any_first (has_key_of ns) (keys_tell total ns) rows);
    }
