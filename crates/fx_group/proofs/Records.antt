-- Records are told by what stands under their names.
use Rattle.std.proofs.Common.{◌≡◌, ℕ, List, [], ◌∷◌, map, get_or, Bool, true, false, not, bytes_eq, Option, Some, None, refl, sym, ap, subst, ◌∙◌, cond, if◌then◌else◌}
use Rattle.std.specs.List.{All, filter, list_any}
use Rattle.std.specs.Ordering.{nat_cmp, is_lt}
use Rattle.std.specs.Cmp.Lexicographic.{slice_cmp}
use Rattle.std.specs.Prelude.{◌||◌}
use Rattle.std.specs.declared.cmp.Ordering.{Ordering}
use Rattle.std.specs.declared.cmp.Ordering.TheVariants.{Less, Equal, Greater}
use Rattle.std.proofs.lemmas.Cmp.{nat_list_cmp_total}
use Rattle.std.proofs.lemmas.List.Elements.{All-cons, All-filter, All-head, All-nil, All-tail, All-weaker, filter_passes}
use Rattle.std.proofs.lemmas.Map.Lookups.{exact_bytes}
use Rattle.fx_types.specs.Lookup.{item_named}
use Rattle.fx_types.specs.Rising.{AreNamesRising, IsBelow, IsNameBelowAll}
use Rattle.fx_types.specs.Values.{Data, field_list}
use Rattle.fx_types.proofs.Risings.{rising_filter}
use Rattle.fx_tables.proofs.ColumnSteps.{lacking_rest, lacks_first, lacks_rest, not_below_itself, rising_with, rising_without}
use Rattle.fx_tables.specs.ColumnCalls.{without_columns}
use Rattle.fx_tables.specs.Groups.{IsApart, with_fields}
use Rattle.fx_tables.specs.TableRows.{fields_of, rows_in, table_of}
use Rattle.fx_value.proofs.Unions.{below}
use Rattle.fx_value.proofs.Widenings.{own_name, same_name}
use Rattle.fx_value.specs.Columns.{Row, fields_only, fields_without, with_field}

-- ---- names

-- a name is another than those above it
pub apart : (n m : List ℕ) → IsBelow n m → bytes_eq n m ≡ false
apart n m h = by (bytes_eq n m) refl
  where
    by : (b : Bool) → bytes_eq n m ≡ b → b ≡ false
    by true e = let P : List ℕ → Type 0 = λ z. IsBelow n z in absurd (not_below_itself n (subst P (sym (same_name n m e)) h))
    by false e = refl

-- names are the same both ways round
names_turn : (n m : List ℕ) → bytes_eq n m ≡ bytes_eq m n
names_turn n m = by (bytes_eq n m) (bytes_eq m n) refl refl
  where
    by : (b c : Bool) → bytes_eq n m ≡ b → bytes_eq m n ≡ c → b ≡ c
    by true true p q = refl
    by false false p q = refl
    by true false p q =
        let P : List ℕ → Type 0 = λ z. bytes_eq m z ≡ true in
        let own : bytes_eq m n ≡ true = subst P (sym (same_name n m p)) (own_name m) in
        cc
    by false true p q =
        let P : List ℕ → Type 0 = λ z. bytes_eq n z ≡ true in
        let own : bytes_eq n m ≡ true = subst P (sym (same_name m n q)) (own_name n) in
        cc

-- a name below others isn't among them
pub lacks_below : (n : List ℕ) (fs : Row) → IsNameBelowAll n fs → item_named n fs ≡ None
lacks_below n [] h = refl
lacks_below n (f ∷ fs) h = ap (λ b. if b then Some f.1 else item_named n fs) (names_turn f.0 n ∙ apart n f.0 h.0) ∙ lacks_below n fs h.1

-- ---- one more field

-- what stands under another name stays
pub other_with : (m n : List ℕ) (d : Data) (fs : Row) → bytes_eq n m ≡ false → item_named m (with_field n d fs) ≡ item_named m fs
other_with m n d [] e = ap (λ b. if b then Some d else None) e
other_with m n d (f ∷ fs) e = by (is_lt (slice_cmp nat_cmp n f.0)) (other_with m n d fs e)
  where
    by : (b : Bool) → item_named m (with_field n d fs) ≡ item_named m fs → item_named m (if b then (n, d) ∷ f ∷ fs else f ∷ with_field n d fs) ≡ item_named m (f ∷ fs)
    by true k = ap (λ b. if b then Some d else item_named m (f ∷ fs)) e
    by false k = ap (λ o. if bytes_eq f.0 m then Some f.1 else o) k

-- the field stands under its name, where none did before
pub own_with : (n : List ℕ) (d : Data) (fs : Row) → item_named n fs ≡ None → item_named n (with_field n d fs) ≡ Some d
own_with n d [] e = ap (λ b. if b then Some d else None) (own_name n)
own_with n d (f ∷ fs) e = by (is_lt (slice_cmp nat_cmp n f.0)) (own_with n d fs (lacks_rest n f fs e))
  where
    by : (b : Bool) → item_named n (with_field n d fs) ≡ Some d → item_named n (if b then (n, d) ∷ f ∷ fs else f ∷ with_field n d fs) ≡ Some d
    by true k = ap (λ b. if b then Some d else item_named n (f ∷ fs)) (own_name n)
    by false k = ap (λ b. if b then Some f.1 else item_named n (with_field n d fs)) (lacks_first n f fs e) ∙ k

-- without that field the record is as before
pub without_with : (n : List ℕ) (d : Data) (fs : Row) → item_named n fs ≡ None → fields_without n (with_field n d fs) ≡ fs
without_with n d [] e = ap (λ b. cond (not b) ((n, d) ∷ []) []) (own_name n)
without_with n d (f ∷ fs) e = by (is_lt (slice_cmp nat_cmp n f.0)) (without_with n d fs (lacks_rest n f fs e))
  where
    by : (b : Bool) → fields_without n (with_field n d fs) ≡ fs → fields_without n (if b then (n, d) ∷ f ∷ fs else f ∷ with_field n d fs) ≡ f ∷ fs
    by true k =
        ap (λ b. cond (not b) ((n, d) ∷ fields_without n (f ∷ fs)) (fields_without n (f ∷ fs))) (own_name n)
        ∙ ap (λ b. cond (not b) (f ∷ fields_without n fs) (fields_without n fs)) (lacks_first n f fs e)
        ∙ ap (λ zs. f ∷ zs) (sym (lacking_rest n fs (lacks_rest n f fs e)))
    by false k = ap (λ b. cond (not b) (f ∷ fields_without n (with_field n d fs)) (fields_without n (with_field n d fs))) (lacks_first n f fs e) ∙ ap (λ zs. f ∷ zs) k

-- ---- records of the same items

further : (n m : List ℕ) (fs : Row) → IsBelow n m → IsNameBelowAll m fs → IsNameBelowAll n fs
further n m [] h k = tt
further n m (f ∷ fs) h k = (nat_list_cmp_total.trans n m f.0 h k.0, further n m fs h k.1)

first_is : (x : List ℕ × Data) (a : Row) → item_named x.0 (x ∷ a) ≡ Some x.1
first_is x a = ap (λ b. if b then Some x.1 else item_named x.0 a) (own_name x.0)

first_names : (x y : List ℕ × Data) (a b : Row) → AreNamesRising (x ∷ a) → AreNamesRising (y ∷ b) → ((n : List ℕ) → item_named n (x ∷ a) ≡ item_named n (y ∷ b)) → x.0 ≡ y.0
first_names x y a b r q h = by (slice_cmp nat_cmp x.0 y.0) refl
  where
    by : (o : Ordering) → slice_cmp nat_cmp x.0 y.0 ≡ o → x.0 ≡ y.0
    by Less c = let none : Some x.1 ≡ None = sym (first_is x a) ∙ h x.0 ∙ lacks_below x.0 (y ∷ b) (c, further x.0 y.0 b c q.0) in absurd cc
    by Equal c = exact_bytes x.0 y.0 c
    by Greater c =
        let under = below y.0 x.0 c in
        let none : Some y.1 ≡ None = sym (first_is y b) ∙ sym (h y.0) ∙ lacks_below y.0 (x ∷ a) (under, further y.0 x.0 a under r.0) in
        absurd cc

inside : (d e : Data) → ◌≡◌ {A = Option Data} (Some d) (Some e) → d ≡ e
inside d e h = cc

pub same_records : (a b : Row) → AreNamesRising a → AreNamesRising b → ((n : List ℕ) → item_named n a ≡ item_named n b) → a ≡ b
same_records [] [] r q h = refl
same_records [] (y ∷ b) r q h = let none : None ≡ Some y.1 = h y.0 ∙ first_is y b in absurd cc
same_records (x ∷ a) [] r q h = let none : Some x.1 ≡ None = sym (first_is x a) ∙ h x.0 in absurd cc
same_records (x ∷ a) (y ∷ b) r q h =
    let names = first_names x y a b r q h in
    let values = inside x.1 y.1 (sym (first_is x a) ∙ h x.0 ∙ ap (λ n. item_named n (y ∷ b)) names ∙ first_is y b) in
    let rest = same_records a b r.1 q.1 (λ n. behind names n (bytes_eq x.0 n) refl) in
    λ i. (names i, values i) ∷ rest i
  where
    behind : x.0 ≡ y.0 → (n : List ℕ) (c : Bool) → bytes_eq x.0 n ≡ c → item_named n a ≡ item_named n b
    behind names n true e =
        let here = same_name x.0 n e in
        let P : Row → List ℕ → Type 0 = λ fs z. item_named z fs ≡ None in
        subst (P a) here (lacks_below x.0 a r.0) ∙ sym (subst (P b) (sym names ∙ here) (lacks_below y.0 b q.0))
    behind names n false e =
        sym (ap (λ z. if z then Some x.1 else item_named n a) e) ∙ h n ∙ ap (λ z. if z then Some y.1 else item_named n b) (ap (λ z. bytes_eq z n) (sym names) ∙ e)

-- ---- what stands in some of the fields

pub some_at : (p : List ℕ → Bool) (m : List ℕ) (fs : Row) → item_named m (filter (λ f. p f.0) fs) ≡ (if p m then item_named m fs else None)
some_at p m [] = none (p m)
  where
    none : (b : Bool) → ◌≡◌ {A = Option Data} None (if b then None else None)
    none true = refl
    none false = refl
some_at p m (f ∷ fs) = by (p f.0) (bytes_eq f.0 m) refl refl (some_at p m fs)
  where
    by : (b c : Bool) → p f.0 ≡ b → bytes_eq f.0 m ≡ c → item_named m (filter (λ f. p f.0) fs) ≡ (if p m then item_named m fs else None) →
        item_named m (cond b (f ∷ filter (λ f. p f.0) fs) (filter (λ f. p f.0) fs)) ≡ (if p m then (if c then Some f.1 else item_named m fs) else None)
    by true true e g k =
        let here = ap p (sym (same_name f.0 m g)) ∙ e in
        ap (λ z. if z then Some f.1 else item_named m (filter (λ f. p f.0) fs)) g ∙ sym (ap (λ z. if z then Some f.1 else None) here)
    by true false e g k = ap (λ z. if z then Some f.1 else item_named m (filter (λ f. p f.0) fs)) g ∙ k
    by false true e g k =
        let here = ap p (sym (same_name f.0 m g)) ∙ e in
        k ∙ ap (λ z. if z then item_named m fs else None) here ∙ sym (ap (λ z. if z then Some f.1 else None) here)
    by false false e g k = k

-- a record without the fields of these names
abbrev pub without_all : List (List ℕ) → Row → Row
without_all [] r = r
without_all (n ∷ ns) r = without_all ns (fields_without n r)

all_as_they_are : (rs : List Row) → rs ≡ map (without_all []) rs
all_as_they_are [] = refl
all_as_they_are (r ∷ rs) = ap (λ z. r ∷ z) (all_as_they_are rs)

one_more_out : (n : List ℕ) (ns : List (List ℕ)) (rs : List Row) → map (without_all ns) (map (fields_without n) rs) ≡ map (without_all (n ∷ ns)) rs
one_more_out n ns [] = refl
one_more_out n ns (r ∷ rs) = ap (λ z. without_all (n ∷ ns) r ∷ z) (one_more_out n ns rs)

pub columns_out : (ns : List (List ℕ)) (rows : List Row) → without_columns ns rows ≡ map (without_all ns) rows
columns_out [] rows = all_as_they_are rows
columns_out (n ∷ ns) rows = columns_out ns (map (fields_without n) rows) ∙ one_more_out n ns rows

pub rest_at : (ns : List (List ℕ)) (m : List ℕ) (r : Row) → item_named m (without_all ns r) ≡ (if list_any (bytes_eq m) ns then None else item_named m r)
rest_at [] m r = refl
rest_at (n ∷ ns) m r =
    rest_at ns m (fields_without n r) ∙ ap (λ o. if list_any (bytes_eq m) ns then None else o) (some_at (λ z. not (bytes_eq z n)) m r)
    ∙ either (bytes_eq m n) (list_any (bytes_eq m) ns) (item_named m r)
  where
    either : (a b : Bool) (o : Option Data) → (if b then None else (if not a then o else None)) ≡ (if a || b then None else o)
    either true true o = refl
    either true false o = refl
    either false true o = refl
    either false false o = refl

pub rest_rises : (ns : List (List ℕ)) (r : Row) → AreNamesRising r → AreNamesRising (without_all ns r)
rest_rises [] r h = h
rest_rises (n ∷ ns) r h = rest_rises ns (fields_without n r) (rising_without n r h)

rest_keeps : (P : List ℕ × Data → Type 0) (ns : List (List ℕ)) (r : Row) → All P r → All P (without_all ns r)
rest_keeps P [] r h = h
rest_keeps P (n ∷ ns) r h = rest_keeps P ns (fields_without n r) (All-filter (λ f. not (bytes_eq f.0 n)) P r h)

-- no field that is left has one of these names
pub rest_apart : (ns : List (List ℕ)) (r : Row) → All (λ (f : List ℕ × Data). list_any (bytes_eq f.0) ns ≡ false) (without_all ns r)
rest_apart [] r = λ k d l. refl
rest_apart (n ∷ ns) r =
    let here = rest_keeps (λ f. bytes_eq f.0 n ≡ false) ns (fields_without n r)
    (All-weaker (λ (f : List ℕ × Data). not (bytes_eq f.0 n) ≡ true) (λ f. bytes_eq f.0 n ≡ false) (λ f e. turned (bytes_eq f.0 n) e) (fields_without n r) (filter_passes (λ (f : List ℕ × Data). not (bytes_eq f.0 n)) r)) in
    let behind = rest_apart ns (fields_without n r) in
    λ k d l. ap (λ b. b || list_any (bytes_eq (get_or (without_all (n ∷ ns) r) k d).0) ns) (here k d l) ∙ behind k d l
  where
    turned : (b : Bool) → not b ≡ true → b ≡ false
    turned true e = absurd cc
    turned false e = refl

-- ---- records beside each other

-- the first item, and where there is none the other
abbrev pub or_item : Option Data → Option Data → Option Data
or_item (Some d) o = Some d
or_item None o = o

pub free_rest : (f : List ℕ × Data) (s r : Row) → IsNameBelowAll f.0 s → IsApart r s → IsApart (with_field f.0 f.1 r) s
free_rest f [] r b h = All-nil (λ x. item_named x.0 (with_field f.0 f.1 r) ≡ None)
free_rest f (x ∷ s) r b h =
    All-cons (λ z. item_named z.0 (with_field f.0 f.1 r) ≡ None) x s (other_with x.0 f.0 f.1 r (apart f.0 x.0 b.0) ∙ All-head (λ z. item_named z.0 r ≡ None) x s h)
    (free_rest f s r b.1 (All-tail (λ z. item_named z.0 r ≡ None) x s h))

pub joined_at : (s r : Row) → AreNamesRising s → IsApart r s → (m : List ℕ) → item_named m (with_fields s r) ≡ or_item (item_named m s) (item_named m r)
joined_at [] r q h m = refl
joined_at (f ∷ s) r q h m =
    joined_at s (with_field f.0 f.1 r) q.1 (free_rest f s r q.0 (All-tail (λ z. item_named z.0 r ≡ None) f s h)) m ∙ by (bytes_eq f.0 m) refl
  where
    by : (b : Bool) → bytes_eq f.0 m ≡ b → or_item (item_named m s) (item_named m (with_field f.0 f.1 r)) ≡ or_item (if b then Some f.1 else item_named m s) (item_named m r)
    by true e =
        let here = same_name f.0 m e in
        let P : List ℕ → Type 0 = λ z. or_item (item_named z s) (item_named z (with_field f.0 f.1 r)) ≡ Some f.1 in
        subst P here ((λ i. or_item (lacks_below f.0 s q.0 i) (own_with f.0 f.1 r (All-head (λ z. item_named z.0 r ≡ None) f s h) i)))
    by false e = ap (or_item (item_named m s)) (other_with m f.0 f.1 r e)

pub joined_rises : (s r : Row) → AreNamesRising s → IsApart r s → AreNamesRising r → AreNamesRising (with_fields s r)
joined_rises [] r q h k = k
joined_rises (f ∷ s) r q h k =
    joined_rises s (with_field f.0 f.1 r) q.1 (free_rest f s r q.0 (All-tail (λ z. item_named z.0 r ≡ None) f s h))
    (rising_with f.0 f.1 r k (All-head (λ z. item_named z.0 r ≡ None) f s h))

-- ---- a record taken apart, and put together again

or_none : (o : Option Data) → or_item o None ≡ o
or_none (Some d) = refl
or_none None = refl

-- the fields of these names from a record in which they are the same, and the others
pub together : (ns : List (List ℕ)) (f r : Row) → AreNamesRising f → AreNamesRising r → ((m : List ℕ) → list_any (bytes_eq m) ns ≡ true → item_named m f ≡ item_named m r) →
    with_fields (without_all ns r) (fields_only ns f) ≡ r
together ns f r q k same =
    same_records (with_fields (without_all ns r) (fields_only ns f)) r (joined_rises (without_all ns r) (fields_only ns f) rises free (rising_filter (λ x. list_any (bytes_eq x.0) ns) f q)) k
    (λ m. joined_at (without_all ns r) (fields_only ns f) rises free m
    ∙ (λ i. or_item (rest_at ns m r i) (some_at (λ z. list_any (bytes_eq z) ns) m f i)) ∙ by m (list_any (bytes_eq m) ns) refl)
  where
    rises : AreNamesRising (without_all ns r)
    rises = rest_rises ns r k

    free : IsApart (fields_only ns f) (without_all ns r)
    free = All-weaker (λ (x : List ℕ × Data). list_any (bytes_eq x.0) ns ≡ false) (λ x. item_named x.0 (fields_only ns f) ≡ None)
        (λ x e. some_at (λ z. list_any (bytes_eq z) ns) x.0 f ∙ ap (λ b. if b then item_named x.0 f else None) e) (without_all ns r) (rest_apart ns r)

    by : (m : List ℕ) (b : Bool) → list_any (bytes_eq m) ns ≡ b → or_item (if b then None else item_named m r) (if b then item_named m f else None) ≡ item_named m r
    by m true e = same m e
    by m false e = or_none (item_named m r)

-- ---- the rows of a table
fields_back : (fs : Row) → fields_of (field_list fs) ≡ fs
fields_back [] = refl
fields_back (f ∷ fs) = ap (λ z. f ∷ z) (fields_back fs)

pub rows_back : (rs : List Row) → rows_in (table_of rs) ≡ rs
rows_back [] = refl
rows_back (r ∷ rs) = λ i. fields_back r i ∷ rows_back rs i
