-- The numbers that the index gives in ranges of `ID`, or in that of one key, rise.
use Rattle.std.proofs.Common.{◌≡◌, ◌⊎◌, inl, inr, ℕ, zero, suc, ◌+◌, ◌-◌, ◌==◌, ◌<◌, ◌≤◌, ◌^◌, ◌*◌, pos, List, [], ◌∷◌, ◌++◌, filter, get_or, length, map, take, refl, sym, ap, ap₂, ◌∙◌, arith, Bool, true, false, not, cond, ◌&&◌, ◌||◌, Option, None, Some, subst}
use Rattle.std.specs.Prelude.{bytes_eq, option_to_list}
use Rattle.std.specs.Cmp.{unsigned_ties}
use Rattle.std.specs.Cmp.Lexicographic.{nat_list_cmp_total, slice_cmp}
use Rattle.std.specs.List.{list_any, AllByRecursion}
use Rattle.std.specs.List.Sorted.{IsStrictlySortedBy}
use Rattle.std.specs.Map.{lookup, keys_of}
use Rattle.std.specs.Option.{is_some}
use Rattle.std.specs.BTreeMap.{is_at}
use Rattle.std.specs.Ordering.{nat_cmp, int_cmp, ordering_then, is_eq, is_le, is_lt}
use Rattle.std.specs.declared.cmp.Ordering.{Ordering}
use Rattle.std.specs.declared.cmp.Ordering.TheVariants.{Less, Equal, Greater}
use Rattle.std.proofs.lemmas.Int.{ints}
use Rattle.std.proofs.lemmas.Bool.{and_parts, eqb-true, or_right}
use Rattle.std.proofs.lemmas.Bool.Decides.{nat_tests}
use Rattle.std.proofs.lemmas.Cmp.{nat_cmp_total, tied_itself}
use Rattle.std.proofs.lemmas.List.{append-nil, append_assoc, take_all, take_more}
use Rattle.std.proofs.lemmas.List.Folds.{list_any-append}
use Rattle.std.proofs.lemmas.Map.Keys.{sorted_head, sorted_tail}
use Rattle.std.proofs.lemmas.Map.Text.{is_eq-slice_cmp}
use Rattle.fx_types.specs.Values.{Data, blank, boolean}
use Rattle.fx_core.specs.declared.schema.Column.{Column}
use Rattle.fx_number.specs.Decimal.{IsInRange}
use Rattle.fx_value.specs.Keys.{KeysOrder, key_bytes}
use Rattle.fx_value.proofs.ByteOrder.{le_trans, lt_is}
use Rattle.row_queries.specs.Ranges.{AreRangesRising, EndsBeforeAll, HoldEveryKey, in_range, is_before_end}
use Rattle.row_queries.specs.TableRows.{id_value}
use Rattle.row_queries.specs.declared.ranges.KeyRange.{KeyRange}
use Rattle.row_queries.specs.declared.rows.Row.{Row}
use Rattle.row_keeper.specs.declared.index.Mark.{Mark}
use Rattle.row_keeper.specs.declared.row_slots.Slot.{Slot}
use Rattle.row_keeper.specs.Covered.{Agrees, NoneAbove, covered_of, covers, has_entry, lie_in}
use Rattle.row_keeper.specs.Entries.{IndexEntry, Entries, among, entry_cmp, hits_in, ids_in, ids_of, lies_at, now_in}
use Rattle.row_keeper.specs.Found.{row_under, rows_of_ids}
use Rattle.row_keeper.specs.Pages.{GoesByNumber}
use Rattle.row_keeper.specs.Rules.{only_key}
use Rattle.row_keeper.specs.Slots.{now_at}
use Rattle.row_keeper.proofs.FoundLemmas.{bytes_same, hits_are, less_not_at}
use Rattle.row_keeper.proofs.MarkLemmas.{entry_total}
use Rattle.row_keeper.proofs.RuleLemmas.{one_key}

-- ---- the numbers are those that are hit
at_number : (i n : ℕ) → is_at (nat_cmp i) n ≡ (n == i)
at_number i n = sym (unsigned_ties i n) ∙ turned i n
  where
    turned : (a b : ℕ) → (a == b) ≡ (b == a)
    turned a b = grind (arith, nat_tests)

ids_hit : (es : Entries) (i : ℕ) → list_any (is_at (nat_cmp i)) (ids_of es) ≡ among es i
ids_hit [] i = refl
ids_hit (e ∷ es) i = go e.1.is (ids_hit es i)
  where
    go : (t : Bool) → list_any (is_at (nat_cmp i)) (ids_of es) ≡ among es i
        → list_any (is_at (nat_cmp i)) (map (λ (x : IndexEntry × Mark). x.0.1) (cond t (e ∷ filter (λ (x : IndexEntry × Mark). x.1.is) es) (filter (λ (x : IndexEntry × Mark). x.1.is) es))) ≡ ((t && (e.0.1 == i)) || among es i)
    go true ih = ap₂ (λ x y. x || y) (at_number i e.0.1) ih
    go false ih = ih

pub ids_are_hits : (column : ℕ) (rs : List KeyRange) (es : Entries) (i : ℕ) → list_any (is_at (nat_cmp i)) (ids_in column rs es) ≡ hits_in column rs es i
ids_are_hits column [] es i = refl
ids_are_hits column (r ∷ rs) es i =
    list_any-append (is_at (nat_cmp i)) (ids_of (filter (lies_at column r) es)) (ids_in column rs es)
    ∙ ap₂ (λ x y. x || y) (ids_hit (filter (lies_at column r) es) i) (ids_are_hits column rs es i)

-- ---- keys of numbers go as the numbers do
abbrev K : ℕ → List ℕ
K i = key_bytes (id_value i)

pub numbers_go : (i j : ℕ) → int_cmp (pos (i * 10000)) (pos (j * 10000)) ≡ nat_cmp i j
numbers_go i j = grind (arith, nat_tests)

number_fits : (i : ℕ) → i < 2 ^ 32 → IsInRange (pos (i * 10000))
number_fits i l = (omega (arith, ints, l), omega (arith, ints, l))

pub keys_go : KeysOrder → (i j : ℕ) → i < 2 ^ 32 → j < 2 ^ 32 → slice_cmp nat_cmp (K i) (K j) ≡ nat_cmp i j
keys_go law i j l m = law (id_value i) (id_value j) tt (number_fits i l) (number_fits j m) ∙ numbers_go i j

-- ---- an entry now is that of a row, under the key of its number
abbrev pub IsKeyed : List (ℕ × Slot) → IndexEntry × Mark → Type 0
IsKeyed rows e = (e.1.is ≡ true) → (e.0.0.0 ≡ 0) → (e.0.0.1 ≡ K e.0.1) × (e.0.1 < 2 ^ 32) × (is_some (now_at rows e.0.1) ≡ true)

abbrev OwnMarks : Entries → Entries → Type 0
OwnMarks es part = AllByRecursion (λ (x : IndexEntry × Mark). lookup (is_at (entry_cmp x.0)) es ≡ Some x.1) part

own_more : (e : IndexEntry × Mark) (rest part : Entries) → AllByRecursion (λ y. entry_cmp e.0 y ≡ Less) (keys_of part) → OwnMarks rest part → OwnMarks (e ∷ rest) part
own_more e rest [] below owns = tt
own_more e rest (x ∷ part) below owns = (
  subst (λ b. cond b (Some e.1) (lookup (is_at (entry_cmp x.0)) rest) ≡ Some x.1) (sym (ap is_eq (entry_total.antisymm x.0 e.0) ∙ less_not_at (entry_cmp e.0 x.0) below.0)) owns.0,
  own_more e rest part below.1 owns.1,
)

own_marks : (es : Entries) → IsStrictlySortedBy entry_cmp (keys_of es) → OwnMarks es es
own_marks [] sorted = tt
own_marks (e ∷ rest) sorted = (
  subst (λ b. cond b (Some e.1) (lookup (is_at (entry_cmp e.0)) rest) ≡ Some e.1) (sym (ap is_eq (tied_itself entry_total e.0))) refl,
  own_more e rest rest (sorted_head entry_cmp e.0 (keys_of rest) sorted) (own_marks rest (sorted_tail entry_cmp e.0 (keys_of rest) sorted)),
)

keyed_one : (covered : List ℕ) (rows : List (ℕ × Slot)) (es : Entries) (last : ℕ) → Agrees covered rows es → NoneAbove last (now_at rows) → last < 2 ^ 32 → (e : IndexEntry × Mark) → lookup (is_at (entry_cmp e.0)) es ≡ Some e.1 → IsKeyed rows e
keyed_one covered rows es last agrees above few e own is zeroth =
    let now : now_in es e.0 ≡ true = ap is_now_of own ∙ is in
    let has : has_entry e.0 (now_at rows e.0.1) ≡ true = (and_parts (covers covered e.0.0.0) (has_entry e.0 (now_at rows e.0.1)) (sym (agrees.0 e.0) ∙ now)).1 in
    go (now_at rows e.0.1) refl has
  where
    is_now_of : Option Mark → Bool
    is_now_of None = false
    is_now_of (Some m) = m.is

    most : (o : Option (List Data)) → now_at rows e.0.1 ≡ o → is_some o ≡ true → e.0.1 < 2 ^ 32
    most o f g = by (nat_cmp last e.0.1) refl
      where
        by : (p : Ordering) → nat_cmp last e.0.1 ≡ p → e.0.1 < 2 ^ 32
        by Less h = absurd (let l : last < e.0.1 = grind (arith, nat_tests, h) in let z : false ≡ true = sym (above e.0.1 l) ∙ ap is_some f ∙ g in cc)
        by Equal h = let l : last ≡ e.0.1 = grind (arith, nat_tests, h) in omega (arith, l, few)
        by Greater h = let l : e.0.1 < last = grind (arith, nat_tests, h) in omega (arith, l, few)

    go : (o : Option (List Data)) → now_at rows e.0.1 ≡ o → has_entry e.0 o ≡ true → (e.0.0.1 ≡ K e.0.1) × (e.0.1 < 2 ^ 32) × (is_some (now_at rows e.0.1) ≡ true)
    go None f h = absurd cc
    go (Some cells) f h = (sym (subst (λ c. has_at c ≡ true → K e.0.1 ≡ e.0.0.1) zeroth_back at_zero h), most (Some cells) f refl, ap is_some f)
      where
        has_at : ℕ → Bool
        has_at c = has_entry ((c, e.0.0.1), e.0.1) (Some cells)

        zeroth_back : 0 ≡ e.0.0.0
        zeroth_back = sym zeroth

        at_zero : has_at 0 ≡ true → K e.0.1 ≡ e.0.0.1
        at_zero = bytes_same (K e.0.1) e.0.0.1

pub keyed : (covered : List ℕ) (rows : List (ℕ × Slot)) (es : Entries) (last : ℕ) → Agrees covered rows es → NoneAbove last (now_at rows) → last < 2 ^ 32 → IsStrictlySortedBy entry_cmp (keys_of es) → AllByRecursion (IsKeyed rows) es
keyed covered rows es last agrees above few sorted = all es (own_marks es sorted)
  where
    all : (part : Entries) → OwnMarks es part → AllByRecursion (IsKeyed rows) part
    all [] owns = tt
    all (e ∷ part) owns = (keyed_one covered rows es last agrees above few e owns.0, all part owns.1)

-- ---- the numbers of one range rise
abbrev Rises : List ℕ → Type 0
Rises ids = IsStrictlySortedBy nat_cmp ids

rises_none : Rises []
unfolding IsStrictlySortedBy
rises_none = tt

rises_more : (i : ℕ) (ids : List ℕ) → AllByRecursion (λ j. nat_cmp i j ≡ Less) ids → Rises ids → Rises (i ∷ ids)
unfolding IsStrictlySortedBy
rises_more i ids below rest = (below, rest)

rises_append : (xs ys : List ℕ) → Rises xs → Rises ys → AllByRecursion (λ i. AllByRecursion (λ j. nat_cmp i j ≡ Less) ys) xs → Rises (xs ++ ys)
rises_append [] ys a b h = b
rises_append (x ∷ xs) ys a b h = rises_more x (xs ++ ys) (all xs (sorted_head nat_cmp x xs a)) (rises_append xs ys (sorted_tail nat_cmp x xs a) b h.1)
  where
    all : (zs : List ℕ) → AllByRecursion (λ j. nat_cmp x j ≡ Less) zs → AllByRecursion (λ j. nat_cmp x j ≡ Less) (zs ++ ys)
    all [] k = h.0
    all (z ∷ zs) k = (k.0, all zs k.1)

before : KeysOrder → (e q : IndexEntry) → e.0.0 ≡ 0 → q.0.0 ≡ 0 → e.0.1 ≡ K e.1 → q.0.1 ≡ K q.1 → e.1 < 2 ^ 32 → q.1 < 2 ^ 32 → entry_cmp e q ≡ Less → nat_cmp e.1 q.1 ≡ Less
before law e q c d k m l n h = go (nat_cmp e.1 q.1) (sym (ap₂ (λ x y. ordering_then (ordering_then x y) (nat_cmp e.1 q.1)) (ap₂ nat_cmp c d) (ap₂ (slice_cmp nat_cmp) k m ∙ keys_go law e.1 q.1 l n)) ∙ h)
  where
    go : (o : Ordering) → ordering_then (ordering_then (nat_cmp 0 0) o) o ≡ Less → o ≡ Less
    go Less g = refl
    go Equal g = absurd cc
    go Greater g = absurd cc

-- what is told of a number in a range of `ID`
abbrev IsIn : List (ℕ × Slot) → KeyRange → ℕ → Type 0
IsIn rows r i = (in_range (K i) r ≡ true) × (i < 2 ^ 32) × (is_some (now_at rows i) ≡ true)

lies_zero : (r : KeyRange) (e : IndexEntry × Mark) → lies_at 0 r e ≡ true → (e.0.0.0 ≡ 0) × (in_range e.0.0.1 r ≡ true)
lies_zero r e h = let b = and_parts (e.0.0.0 == 0) (in_range e.0.0.1 r) h in (eqb-true e.0.0.0 0 b.0, b.1)

-- the numbers of the entries of a column in a range
abbrev kept_in : ℕ → KeyRange → Entries → List ℕ
kept_in column r es = ids_of (filter (lies_at column r) es)

kept_is : (column : ℕ) (r : KeyRange) (e : IndexEntry × Mark) (es : Entries) (u t : Bool) → lies_at column r e ≡ u → e.1.is ≡ t → kept_in column r (e ∷ es) ≡ cond (u && t) (e.0.1 ∷ kept_in column r es) (kept_in column r es)
kept_is column r e es u t a b = ap (λ x. ids_of (cond x (e ∷ rest) rest)) a ∙ go u
  where
    rest : Entries
    rest = filter (λ x. lies_at column r x) es

    still : Entries
    still = filter (λ x. x.1.is) rest

    go : (x : Bool) → ids_of (cond x (e ∷ rest) rest) ≡ cond (x && t) (e.0.1 ∷ kept_in column r es) (kept_in column r es)
    go false = refl
    go true = ap (λ y. map (λ (p : IndexEntry × Mark). p.0.1) (cond y (e ∷ still) still)) b ∙ by t
      where
        by : (y : Bool) → map (λ (p : IndexEntry × Mark). p.0.1) (cond y (e ∷ still) still) ≡ cond y (e.0.1 ∷ kept_in column r es) (kept_in column r es)
        by true = refl
        by false = refl

-- where the entries of rows in a range go as their numbers do, these rise
module _ (column : ℕ) (r : KeyRange) (P : IndexEntry → Type 0) (goes : (e q : IndexEntry) → P e → P q → entry_cmp e q ≡ Less → nat_cmp e.1 q.1 ≡ Less) where
  abbrev Told : IndexEntry × Mark → Type 0
  Told e = lies_at column r e ≡ true → e.1.is ≡ true → P e.0

  below_kept : (e : IndexEntry) → P e → (es : Entries) → AllByRecursion (λ y. entry_cmp e y ≡ Less) (keys_of es) → AllByRecursion Told es → AllByRecursion (λ j. nat_cmp e.1 j ≡ Less) (kept_in column r es)
  below_kept e p [] below told = tt
  below_kept e p (x ∷ es) below told = go (lies_at column r x) refl x.1.is refl (below_kept e p es below.1 told.1)
    where
      Q : List ℕ → Type 0
      Q ids = AllByRecursion (λ j. nat_cmp e.1 j ≡ Less) ids

      go : (u : Bool) → lies_at column r x ≡ u → (t : Bool) → x.1.is ≡ t → Q (kept_in column r es) → Q (kept_in column r (x ∷ es))
      go true a true b rest = subst Q (sym (kept_is column r x es true true a b)) (goes e x.0 p (told.0 a b) below.0, rest)
      go true a false b rest = subst Q (sym (kept_is column r x es true false a b)) rest
      go false a t b rest = subst Q (sym (kept_is column r x es false t a b)) rest

  rising_kept : (es : Entries) → IsStrictlySortedBy entry_cmp (keys_of es) → AllByRecursion Told es → Rises (kept_in column r es)
  rising_kept [] sorted told = rises_none
  rising_kept (e ∷ es) sorted told = go (lies_at column r e) refl e.1.is refl (rising_kept es (sorted_tail entry_cmp e.0 (keys_of es) sorted) told.1)
    where
      go : (u : Bool) → lies_at column r e ≡ u → (t : Bool) → e.1.is ≡ t → Rises (kept_in column r es) → Rises (kept_in column r (e ∷ es))
      go true a true b rest = subst Rises (sym (kept_is column r e es true true a b)) (rises_more e.0.1 (kept_in column r es) (below_kept e.0 (told.0 a b) es (sorted_head entry_cmp e.0 (keys_of es) sorted) told.1) rest)
      go true a false b rest = subst Rises (sym (kept_is column r e es true false a b)) rest
      go false a t b rest = subst Rises (sym (kept_is column r e es false t a b)) rest

-- ---- in ranges of `ID`
abbrev kept : KeyRange → Entries → List ℕ
kept r es = kept_in 0 r es

-- an entry of `ID` has the key of its number
abbrev IsOwn : IndexEntry → Type 0
IsOwn e = (e.0.0 ≡ 0) × (e.0.1 ≡ K e.1) × (e.1 < 2 ^ 32)

module _ (law : KeysOrder) (rows : List (ℕ × Slot)) where
  own_rising : (r : KeyRange) (es : Entries) → IsStrictlySortedBy entry_cmp (keys_of es) → AllByRecursion (IsKeyed rows) es → Rises (kept r es)
  own_rising r es sorted keys = rising_kept 0 r IsOwn (λ e q p k. before law e q p.0 k.0 p.1 k.1 p.2 k.2) es sorted (all es keys)
    where
      all : (part : Entries) → AllByRecursion (IsKeyed rows) part → AllByRecursion (Told 0 r IsOwn (λ e q p k. before law e q p.0 k.0 p.1 k.1 p.2 k.2)) part
      all [] k = tt
      all (e ∷ part) k = (λ a b. let z = lies_zero r e a in let q = k.0 b z.0 in (z.0, q.0, q.1), all part k.1)

  in_kept : (r : KeyRange) (es : Entries) → AllByRecursion (IsKeyed rows) es → AllByRecursion (IsIn rows r) (kept r es)
  in_kept r [] keys = tt
  in_kept r (e ∷ es) keys = go (lies_at 0 r e) refl e.1.is refl (in_kept r es keys.1)
    where
      go : (u : Bool) → lies_at 0 r e ≡ u → (t : Bool) → e.1.is ≡ t → AllByRecursion (IsIn rows r) (kept r es) → AllByRecursion (IsIn rows r) (kept r (e ∷ es))
      go true a true b rest =
          let z = lies_zero r e a in
          let q = keys.0 b z.0 in
          subst (AllByRecursion (IsIn rows r)) (sym (kept_is 0 r e es true true a b)) ((subst (λ k. in_range k r ≡ true) q.0 z.1, q.1, q.2), rest)
      go true a false b rest = subst (AllByRecursion (IsIn rows r)) (sym (kept_is 0 r e es true false a b)) rest
      go false a t b rest = subst (AllByRecursion (IsIn rows r)) (sym (kept_is 0 r e es false t a b)) rest

  -- ---- and those of ranges that rise
  all_append : (P : ℕ → Type 0) (xs ys : List ℕ) → AllByRecursion P xs → AllByRecursion P ys → AllByRecursion P (xs ++ ys)
  all_append P [] ys a b = b
  all_append P (x ∷ xs) ys a b = (a.0, all_append P xs ys a.1 b)

  all_weaker : (P Q : ℕ → Type 0) → ((i : ℕ) → P i → Q i) → (xs : List ℕ) → AllByRecursion P xs → AllByRecursion Q xs
  all_weaker P Q f [] h = tt
  all_weaker P Q f (x ∷ xs) h = (f x h.0, all_weaker P Q f xs h.1)

  abbrev IsFrom : List ℕ → ℕ → Type 0
  IsFrom u j = (is_le (slice_cmp nat_cmp u (K j)) ≡ true) × (j < 2 ^ 32)

  later : (u : List ℕ) (rs : List KeyRange) (es : Entries) → AllByRecursion (IsKeyed rows) es → EndsBeforeAll (Some u) rs → AllByRecursion (IsFrom u) (ids_in 0 rs es)
  later u [] es keys h = tt
  later u (r ∷ rs) es keys h = all_append (IsFrom u) (kept r es) (ids_in 0 rs es)
      (all_weaker (IsIn rows r) (IsFrom u) (λ j k. (le_trans (slice_cmp nat_cmp) nat_list_cmp_total u r.from (K j) h.0 (and_parts (is_le (slice_cmp nat_cmp r.from (K j))) (is_before_end r.upto (K j)) k.0).0, k.1)) (kept r es) (in_kept r es keys))
      (later u rs es keys h.1)

  less_from : (o : Ordering) → is_lt o ≡ true → o ≡ Less
  less_from Less h = refl
  less_from Equal h = absurd cc
  less_from Greater h = absurd cc

  lt_le : (a b c : List ℕ) → is_lt (slice_cmp nat_cmp a b) ≡ true → is_le (slice_cmp nat_cmp b c) ≡ true → is_lt (slice_cmp nat_cmp a c) ≡ true
  lt_le a b c h k = lt_is (slice_cmp nat_cmp) nat_list_cmp_total a c ∙ go (is_le (slice_cmp nat_cmp c a)) refl
    where
      go : (t : Bool) → is_le (slice_cmp nat_cmp c a) ≡ t → not t ≡ true
      go false f = refl
      go true f = absurd (let g : is_le (slice_cmp nat_cmp b a) ≡ true = le_trans (slice_cmp nat_cmp) nat_list_cmp_total b c a k f in let z : true ≡ false = sym h ∙ lt_is (slice_cmp nat_cmp) nat_list_cmp_total a b ∙ ap not g in cc)

  cross : (r : KeyRange) (rs : List KeyRange) (es : Entries) → AllByRecursion (IsKeyed rows) es → EndsBeforeAll r.upto rs → AllByRecursion (λ i. AllByRecursion (λ j. nat_cmp i j ≡ Less) (ids_in 0 rs es)) (kept r es)
  cross r rs es keys h = all_weaker (IsIn rows r) (λ i. AllByRecursion (λ j. nat_cmp i j ≡ Less) (ids_in 0 rs es)) one (kept r es) (in_kept r es keys)
    where
      one : (i : ℕ) → IsIn rows r i → AllByRecursion (λ j. nat_cmp i j ≡ Less) (ids_in 0 rs es)
      one i k = by r.upto h (and_parts (is_le (slice_cmp nat_cmp r.from (K i))) (is_before_end r.upto (K i)) k.0).1
        where
          by : (upto : Option (List ℕ)) → EndsBeforeAll upto rs → is_before_end upto (K i) ≡ true → AllByRecursion (λ j. nat_cmp i j ≡ Less) (ids_in 0 rs es)
          by None e f = last rs e
            where
              last : (rs : List KeyRange) → EndsBeforeAll None rs → AllByRecursion (λ j. nat_cmp i j ≡ Less) (ids_in 0 rs es)
              last [] e = tt
              last (x ∷ xs) e = absurd e.0
          by (Some u) e f = all_weaker (IsFrom u) (λ j. nat_cmp i j ≡ Less) (λ j m. sym (keys_go law i j k.1 m.1) ∙ less_from (slice_cmp nat_cmp (K i) (K j)) (lt_le (K i) u (K j) f m.0)) (ids_in 0 rs es) (later u rs es keys e)

  pub ids_rise : (rs : List KeyRange) (es : Entries) → AreRangesRising rs → IsStrictlySortedBy entry_cmp (keys_of es) → AllByRecursion (IsKeyed rows) es → Rises (ids_in 0 rs es)
  ids_rise [] es h sorted keys = rises_none
  ids_rise (r ∷ rs) es h sorted keys = rises_append (kept r es) (ids_in 0 rs es) (own_rising r es sorted keys) (ids_rise rs es h.1 sorted keys) (cross r rs es keys h.0)

-- ---- in the range of one key
-- an entry in the range is one of the column and the key
abbrev IsOnly : ℕ → List ℕ → IndexEntry → Type 0
IsOnly column key e = (e.0.0 ≡ column) × (e.0.1 ≡ key)

the_key : (key k : List ℕ) → in_range k (only_key key) ≡ true → k ≡ key
the_key key k h = bytes_same k key (sym (is_eq-slice_cmp k key) ∙ sym (one_key key k) ∙ h)

lies_only : (column : ℕ) (key : List ℕ) (e : IndexEntry × Mark) → lies_at column (only_key key) e ≡ true → IsOnly column key e.0
lies_only column key e h = let b = and_parts (e.0.0.0 == column) (in_range e.0.0.1 (only_key key)) h in (eqb-true e.0.0.0 column b.0, the_key key e.0.0.1 b.1)

only_goes : (column : ℕ) (key : List ℕ) (e q : IndexEntry) → IsOnly column key e → IsOnly column key q → entry_cmp e q ≡ Less → nat_cmp e.1 q.1 ≡ Less
only_goes column key e q a b h =
    sym (ap₂ (λ x y. ordering_then (ordering_then x y) (nat_cmp e.1 q.1)) (ap₂ nat_cmp a.0 b.0 ∙ tied_itself nat_cmp_total column) (ap₂ (slice_cmp nat_cmp) a.1 b.1 ∙ tied_itself nat_list_cmp_total key)) ∙ h

only_rising : (column : ℕ) (key : List ℕ) (es : Entries) → IsStrictlySortedBy entry_cmp (keys_of es) → Rises (kept_in column (only_key key) es)
only_rising column key es sorted = rising_kept column (only_key key) (IsOnly column key) (only_goes column key) es sorted (all es)
  where
    all : (part : Entries) → AllByRecursion (Told column (only_key key) (IsOnly column key) (only_goes column key)) part
    all [] = tt
    all (e ∷ part) = (λ a b. lies_only column key e a, all part)

-- ---- where a query goes by numbers
pub goes_rise : KeysOrder → (rows : List (ℕ × Slot)) (column : ℕ) (rs : List KeyRange) (es : Entries) → GoesByNumber column rs → AreRangesRising rs → IsStrictlySortedBy entry_cmp (keys_of es) → AllByRecursion (IsKeyed rows) es → Rises (ids_in column rs es)
goes_rise law rows column rs es (inl e) h sorted keys = subst (λ k. Rises (ids_in k rs es)) (sym e) (ids_rise law rows rs es h sorted keys)
goes_rise law rows column rs es (inr k) h sorted keys =
    subst (λ ranges. Rises (ids_in column ranges es)) (sym k.1) (subst Rises (sym (append-nil (kept_in column (only_key k.0) es))) (only_rising column k.0 es sorted))

-- one key isn't every key
not_every : (key : List ℕ) → HoldEveryKey (only_key key ∷ []) → ⊥
not_every key every =
    let none : key_bytes blank ≡ key = the_key key (key_bytes blank) (alone (in_range (key_bytes blank) (only_key key)) (every blank tt)) in
    let some : key_bytes (boolean true) ≡ key = the_key key (key_bytes (boolean true)) (alone (in_range (key_bytes (boolean true)) (only_key key)) (every (boolean true) tt)) in
    absurd (let e : true ≡ false = ap is_one (none ∙ sym some) in cc)
  where
    alone : (b : Bool) → (b || false) ≡ true → b ≡ true
    alone true h = refl
    alone false h = absurd cc

    is_one : List ℕ → Bool
    is_one (b ∷ []) = true
    is_one bs = false

pub goes_covered : (columns : List Column) (column : ℕ) (rs : List KeyRange) → GoesByNumber column rs → (covers (covered_of columns) column ≡ true) ⊎ HoldEveryKey rs → covers (covered_of columns) column ≡ true
goes_covered columns column rs goes (inl h) = h
goes_covered columns column rs (inl e) (inr every) = ap (covers (covered_of columns)) e
goes_covered columns column rs (inr k) (inr every) = absurd (not_every k.0 (subst HoldEveryKey k.1 every))

-- bytes that end in a 0 are those before it, with the 0 behind
pub next_bytes : (bytes next : List ℕ) → 1 ≤ length next → bytes_eq (take (length next - 1) next) bytes ≡ true → get_or next (length next - 1) 0 ≡ 0 → next ≡ bytes ++ 0 ∷ []
next_bytes bytes next l = go (length next - 1) (omega (arith, l))
  where
    go : (n : ℕ) → n + 1 ≡ length next → bytes_eq (take n next) bytes ≡ true → get_or next n 0 ≡ 0 → next ≡ bytes ++ 0 ∷ []
    go n m same last =
        sym (take_all (n + 1) next (omega (arith, m))) ∙ take_more next n 0 (omega (arith, m))
        ∙ ap₂ (λ (xs : List ℕ) y. xs ++ y ∷ []) (bytes_same (take n next) bytes same) last

-- ---- the numbers are those of rows
each : (P : ℕ → Type 0) (ids : List ℕ) → ((i : ℕ) → list_any (is_at (nat_cmp i)) ids ≡ true → P i) → AllByRecursion P ids
each P [] h = tt
each P (i ∷ ids) h = (
  h i (ap (λ b. b || list_any (is_at (nat_cmp i)) ids) (ap is_eq (tied_itself nat_cmp_total i))),
  each P ids (λ j m. h j (or_right (is_at (nat_cmp j) i) (list_any (is_at (nat_cmp j)) ids) m)),
)

pub ids_there : (covered : List ℕ) (column : ℕ) (rows : List (ℕ × Slot)) (es : Entries) (rs : List KeyRange) → covers covered column ≡ true → Agrees covered rows es → IsStrictlySortedBy entry_cmp (keys_of es) → AllByRecursion (λ i. is_some (now_at rows i) ≡ true) (ids_in column rs es)
ids_there covered column rows es rs has agrees sorted =
    each (λ i. is_some (now_at rows i) ≡ true) (ids_in column rs es) (λ i m. there i (now_at rows i) (sym (hits_are covered column rows es has agrees sorted rs i) ∙ sym (ids_are_hits column rs es i) ∙ m))
  where
    there : (i : ℕ) (o : Option (List Data)) → lie_in column rs i o ≡ true → is_some o ≡ true
    there i None h = absurd cc
    there i (Some cells) h = refl

-- the rows of the first numbers are the first rows
pub rows_taken : (rows : List (ℕ × Slot)) (ids : List ℕ) (n : ℕ) → AllByRecursion (λ i. is_some (now_at rows i) ≡ true) ids → rows_of_ids rows (take n ids) ≡ take n (rows_of_ids rows ids)
rows_taken rows ids zero h = refl
rows_taken rows [] (suc n) h = refl
rows_taken rows (i ∷ is) (suc n) h = go (now_at rows i) h.0 (rows_taken rows is n h.1)
  where
    go : (o : Option (List Data)) → is_some o ≡ true → rows_of_ids rows (take n is) ≡ take n (rows_of_ids rows is)
        → option_to_list (row_under i o) ++ rows_of_ids rows (take n is) ≡ take (suc n) (option_to_list (row_under i o) ++ rows_of_ids rows is)
    go None f ih = absurd cc
    go (Some cells) f ih = ap (λ (l : List Row). record { id = i; cells = cells } ∷ l) ih

-- ---- what is found range by range
pub more_found : (column : ℕ) (rs : List KeyRange) (r : KeyRange) (es : Entries) → ids_in column (rs ++ r ∷ []) es ≡ ids_in column rs es ++ ids_of (filter (lies_at column r) es)
more_found column [] r es = append-nil (ids_of (filter (lies_at column r) es))
more_found column (x ∷ rs) r es = ap (λ l. ids_of (filter (lies_at column x) es) ++ l) (more_found column rs r es) ∙ sym (append_assoc (ids_of (filter (lies_at column x) es)) (ids_in column rs es) (ids_of (filter (lies_at column r) es)))

pub take_twice : (n : ℕ) (xs ys : List ℕ) → take n (take n xs ++ ys) ≡ take n (xs ++ ys)
take_twice zero xs ys = refl
take_twice (suc n) [] ys = refl
take_twice (suc n) (x ∷ xs) ys = ap (λ l. x ∷ l) (take_twice n xs ys)

-- where there are few, the first are all
pub take_few : (n : ℕ) (xs ys : List ℕ) → ys ≡ [] → length xs ≤ n → xs ≡ take n (xs ++ ys)
take_few n xs ys e l = sym (ap (λ zs. take n (xs ++ zs)) e ∙ ap (take n) (append-nil xs) ∙ take_all n xs l)
