-- Where the keys of the values lie that meet comparisons.
use Rattle.std.proofs.Common.{◌≡◌, ◌≢◌, ℕ, List, [], ◌∷◌, ◌++◌, refl, sym, ap, ap₂, ◌∙◌, Bool, true, false, cond, ◌&&◌, ◌||◌, ℤ, pos, Option, None, Some, rules, subst}
use Rattle.std.specs.Prelude.{◌+ℤ◌, ◌^◌, unsigned_abs, if◌then◌else◌}
use Rattle.std.specs.Int.{to_be_bytes, w32, w64}
use Rattle.std.specs.Ordering.{int_cmp, is_le, is_lt, is_gt, is_ge, ordering_reverse}
use Rattle.std.specs.Cmp.{IsTotalOrder}
use Rattle.std.specs.Cmp.Lexicographic.{nat_list_cmp_total}
use Rattle.std.specs.declared.cmp.Ordering.{Ordering}
use Rattle.std.specs.declared.cmp.Ordering.TheVariants.{Less, Equal, Greater}
use Rattle.std.proofs.lemmas.List.Folds.{list_all-append}
use Rattle.std.proofs.lemmas.List.{append-nil}
use Rattle.std.proofs.Math.Bool.{and-false, and-true, or-false}
use Rattle.fx_types.specs.declared.comparisons.Cmp.{Cmp}
use Rattle.fx_types.specs.declared.comparisons.Cmp.TheVariants.{Eq, Ne, Lt, Le, Gt, Ge}
use Rattle.fx_types.specs.Types.{Shape, blanks, numbers, texts, booleans, dates}
use Rattle.fx_types.specs.Values.{Data, blank, number, text, boolean, date, rec, tab, fault}
use Rattle.fx_number.specs.Decimal.{IsInRange}
use Rattle.fx_value.specs.Keys.{IsProper, KeysOrder, key_bytes}
use Rattle.fx_value.specs.Operators.{holds_of, takes}
use Rattle.fx_value.specs.Order.{AreOfOneType, IsScalar, order}
use Rattle.fx_plan.proofs.KeyOrder.{from_max, least_below, none_below, upto_min}
use Rattle.fx_plan.specs.declared.ranges.Span.{Span}
use Rattle.fx_plan.specs.Ranges.{AllTaken, AreSought, Comparison, Compares, ColumnTakes, is_blank, is_empty, is_numbers, meets_all}
use Rattle.fx_plan.specs.Spans.{IsSpan, IsSpanOf, after, blank_range, both_ranges, both_spans, both_upto, joined_spans, least, no_keys, range_by, range_by_blank, range_of, span_ranges}
use Rattle.fx_value.specs.Fits.{fits_in}
use Rattle.fx_value.proofs.ByteOrder.{R, after_from, before_after, le_le, le_trans}
use Rattle.row_queries.specs.declared.ranges.KeyRange.{KeyRange}
use Rattle.row_queries.specs.Ranges.{in_range, in_ranges, is_before_end}

and_true : (a b : Bool) → a ≡ true → (a && b) ≡ b
and_true a b h = rw h refl

-- ---- keys of values other than blank

abbrev digits : ℤ → List ℕ
digits z = to_be_bytes w64 (unsigned_abs (z +ℤ pos (2 ^ 63)))

abbrev short_digits : ℤ → List ℕ
short_digits z = to_be_bytes w32 (unsigned_abs (z +ℤ pos (2 ^ 31)))

abbrev bit : Bool → List ℕ
bit b = (if b then 1 else 0) ∷ []

-- such a key is at least the least one, and not below it
pub key_above : (d : Data) → IsScalar d → is_blank d ≡ false → is_le (R least (key_bytes d)) ≡ true
key_above blank s n = absurd cc
key_above (number z) s n = least_below (digits z)
key_above (text cs) s n = least_below _
key_above (boolean b) s n = least_below (bit b)
key_above (date z) s n = least_below (short_digits z)
key_above (rec fs) s n = absurd s
key_above (tab rs) s n = absurd s
key_above (fault k cs) s n = absurd s

pub after_above : (d : Data) → IsScalar d → is_blank d ≡ false → is_le (R least (after (key_bytes d))) ≡ true
after_above blank s n = absurd cc
after_above (number z) s n = least_below (digits z ++ 0 ∷ [])
after_above (text cs) s n = least_below _
after_above (boolean b) s n = least_below (bit b ++ 0 ∷ [])
after_above (date z) s n = least_below (short_digits z ++ 0 ∷ [])
after_above (rec fs) s n = absurd s
after_above (tab rs) s n = absurd s
after_above (fault k cs) s n = absurd s

key_not_below : (d : Data) → IsScalar d → is_blank d ≡ false → is_lt (R (key_bytes d) least) ≡ false
key_not_below blank s n = absurd cc
key_not_below (number z) s n = none_below (digits z)
key_not_below (text cs) s n = none_below _
key_not_below (boolean b) s n = none_below (bit b)
key_not_below (date z) s n = none_below (short_digits z)
key_not_below (rec fs) s n = absurd s
key_not_below (tab rs) s n = absurd s
key_not_below (fault k cs) s n = absurd s

none_there : (d : Data) → IsScalar d → is_blank d ≡ false → in_range (key_bytes d) no_keys ≡ false
none_there d s n = ap (λ y. is_le (R least (key_bytes d)) && y) (key_not_below d s n) ∙ and-false (is_le (R least (key_bytes d)))

blank_below : (d : Data) → IsScalar d → is_blank d ≡ false → in_range (key_bytes d) blank_range ≡ false
blank_below d s n = ap (λ y. is_le (R (0 ∷ []) (key_bytes d)) && y) (key_not_below d s n) ∙ and-false (is_le (R (0 ∷ []) (key_bytes d)))

-- ---- one comparison with a constant other than blank

turned_lt : (o : Ordering) → is_lt (ordering_reverse o) ≡ is_gt o
turned_lt Less = refl
turned_lt Equal = refl
turned_lt Greater = refl

turned_le : (o : Ordering) → is_le (ordering_reverse o) ≡ is_ge o
turned_le Less = refl
turned_le Equal = refl
turned_le Greater = refl

of_one_type_turned : (a b : Data) → AreOfOneType a b → AreOfOneType b a
of_one_type_turned blank blank t = t
of_one_type_turned blank (number w) t = t
of_one_type_turned blank (text ds) t = t
of_one_type_turned blank (boolean c) t = t
of_one_type_turned blank (date w) t = t
of_one_type_turned (number z) blank t = t
of_one_type_turned (text cs) blank t = t
of_one_type_turned (boolean b) blank t = t
of_one_type_turned (date z) blank t = t
of_one_type_turned (number z) (number w) t = t
of_one_type_turned (text cs) (text ds) t = t
of_one_type_turned (boolean b) (boolean c) t = t
of_one_type_turned (date z) (date w) t = t
of_one_type_turned a b t = absurd t

-- a value other than blank lies in the range where its order beside the constant is one that the operator takes
pub lies_by : (keys : KeysOrder) (total : IsTotalOrder order) → (op : Cmp) → op ≢ Ne → (d c : Data) → AreOfOneType d c → IsProper d → IsProper c → IsScalar d → is_blank d ≡ false → in_range (key_bytes d) (range_by op c) ≡ takes op (order d c)
lies_by keys total Eq n d c t p q s b =
    ap₂ (λ x y. x && y) (ap is_le (keys c d (of_one_type_turned d c t) q p)) (before_after (key_bytes d) (key_bytes c) ∙ ap is_le (keys d c t p q)) ∙ le_le order total c d
lies_by keys total Ne n d c t p q s b = absurd (n refl)
lies_by keys total Lt n d c t p q s b = and_true _ _ (key_above d s b) ∙ ap is_lt (keys d c t p q)
lies_by keys total Le n d c t p q s b = and_true _ _ (key_above d s b) ∙ before_after (key_bytes d) (key_bytes c) ∙ ap is_le (keys d c t p q)
lies_by keys total Gt n d c t p q s b =
    and-true _ ∙ after_from (key_bytes c) (key_bytes d) ∙ ap is_lt (keys c d (of_one_type_turned d c t) q p) ∙ ap is_lt (total.antisymm c d) ∙ turned_lt (order d c)
lies_by keys total Ge n d c t p q s b =
    and-true _ ∙ ap is_le (keys c d (of_one_type_turned d c t) q p) ∙ ap is_le (total.antisymm c d) ∙ turned_le (order d c)

zero_fits : IsInRange (pos 0)
zero_fits = (search rules, search rules)

-- ---- values of one type

abbrev shape_of : Data → Shape
shape_of (number z) = numbers
shape_of (text cs) = texts
shape_of (boolean b) = booleans
shape_of (date z) = dates
shape_of d = blanks

fits_shape : (t : Shape) (d : Data) → IsScalar d → is_blank d ≡ false → fits_in d t ≡ true → t ≡ shape_of d
fits_shape t blank s b e = absurd cc
fits_shape t (rec fs) s b e = absurd s
fits_shape t (tab rs) s b e = absurd s
fits_shape t (fault k cs) s b e = absurd s
fits_shape numbers (number z) s b e = refl
fits_shape texts (text cs) s b e = refl
fits_shape booleans (boolean c) s b e = refl
fits_shape dates (date z) s b e = refl
fits_shape t d s b e = absurd cc

one_shape : (d c : Data) → IsScalar d → IsScalar c → is_blank d ≡ false → is_blank c ≡ false → shape_of d ≡ shape_of c → AreOfOneType d c
one_shape blank c s u b v e = absurd cc
one_shape d blank s u b v e = absurd cc
one_shape (rec fs) c s u b v e = absurd s
one_shape (tab rs) c s u b v e = absurd s
one_shape (fault k cs) c s u b v e = absurd s
one_shape d (rec fs) s u b v e = absurd u
one_shape d (tab rs) s u b v e = absurd u
one_shape d (fault k cs) s u b v e = absurd u
one_shape (number z) (number w) s u b v e = tt
one_shape (text cs) (text ds) s u b v e = tt
one_shape (boolean x) (boolean y) s u b v e = tt
one_shape (date z) (date w) s u b v e = tt
one_shape d c s u b v e = absurd cc

one_type : (t : Shape) (d c : Data) → IsScalar d → IsScalar c → is_blank d ≡ false → is_blank c ≡ false → fits_in d t ≡ true → fits_in c t ≡ true → AreOfOneType d c
one_type t d c s u b v e f = one_shape d c s u b v (sym (fits_shape t d s b e) ∙ fits_shape t c u v f)

-- what holds of every number holds of every value of a column of numbers but blank; so with dates
number_case : (P : Data → Type 0) → ((z : ℤ) → P (number z)) → (d : Data) → IsScalar d → is_blank d ≡ false → fits_in d numbers ≡ true → P d
number_case P f blank s b e = absurd cc
number_case P f (number z) s b e = f z
number_case P f (fault k cs) s b e = absurd s
number_case P f d s b e = absurd cc

date_case : (P : Data → Type 0) → ((z : ℤ) → P (date z)) → (d : Data) → IsScalar d → is_blank d ≡ false → fits_in d dates ≡ true → P d
date_case P f blank s b e = absurd cc
date_case P f (date z) s b e = f z
date_case P f (fault k cs) s b e = absurd s
date_case P f d s b e = absurd cc

-- ---- an operator holds where it takes the order

numbers_hold : (op : Cmp) (z w : ℤ) → takes op (order (number z) (number w)) ≡ holds_of op (number z) (number w)
numbers_hold Eq z w = refl
numbers_hold Ne z w = refl
numbers_hold Lt z w = refl
numbers_hold Le z w = refl
numbers_hold Gt z w = refl
numbers_hold Ge z w = refl

dates_hold : (op : Cmp) (z w : ℤ) → takes op (order (date z) (date w)) ≡ holds_of op (date z) (date w)
dates_hold Eq z w = refl
dates_hold Ne z w = refl
dates_hold Lt z w = refl
dates_hold Le z w = refl
dates_hold Gt z w = refl
dates_hold Ge z w = refl

abbrev Holds : Cmp → Data → Data → Type 0
Holds op d c = takes op (order d c) ≡ holds_of op d c

numbers_do : (op : Cmp) (d c : Data) → IsScalar d → IsScalar c → is_blank d ≡ false → is_blank c ≡ false → fits_in d numbers ≡ true → fits_in c numbers ≡ true → Holds op d c
numbers_do op d c s u b v e f = number_case (λ x. Holds op x c) (λ z. number_case (λ y. Holds op (number z) y) (λ w. numbers_hold op z w) c u v f) d s b e

dates_do : (op : Cmp) (d c : Data) → IsScalar d → IsScalar c → is_blank d ≡ false → is_blank c ≡ false → fits_in d dates ≡ true → fits_in c dates ≡ true → Holds op d c
dates_do op d c s u b v e f = date_case (λ x. Holds op x c) (λ z. date_case (λ y. Holds op (date z) y) (λ w. dates_hold op z w) c u v f) d s b e

holds_is : (op : Cmp) → op ≢ Ne → (t : Shape) → Compares op t → (d c : Data) → IsScalar d → IsScalar c → is_blank d ≡ false → is_blank c ≡ false → fits_in d t ≡ true → fits_in c t ≡ true → Holds op d c
holds_is Eq n t o d c s u b v e f = refl
holds_is Ne n t o d c s u b v e f = absurd (n refl)
holds_is Lt n numbers o d c s u b v e f = numbers_do Lt d c s u b v e f
holds_is Le n numbers o d c s u b v e f = numbers_do Le d c s u b v e f
holds_is Gt n numbers o d c s u b v e f = numbers_do Gt d c s u b v e f
holds_is Ge n numbers o d c s u b v e f = numbers_do Ge d c s u b v e f
holds_is Lt n dates o d c s u b v e f = dates_do Lt d c s u b v e f
holds_is Le n dates o d c s u b v e f = dates_do Le d c s u b v e f
holds_is Gt n dates o d c s u b v e f = dates_do Gt d c s u b v e f
holds_is Ge n dates o d c s u b v e f = dates_do Ge d c s u b v e f
holds_is op n t o d c s u b v e f = absurd o

-- ---- one comparison with blank

never_blank : (d : Data) → IsScalar d → is_blank d ≡ false → holds_of Eq d blank ≡ false
never_blank blank s b = absurd cc
never_blank (number z) s b = refl
never_blank (text cs) s b = refl
never_blank (boolean c) s b = refl
never_blank (date z) s b = refl
never_blank (rec fs) s b = absurd s
never_blank (tab rs) s b = absurd s
never_blank (fault k cs) s b = absurd s

abbrev LiesBlank : Cmp → Bool → Data → Type 0
LiesBlank op n d = IsProper d → in_range (key_bytes d) (range_by_blank op n) ≡ holds_of op d blank

-- beside a number blank counts as 0
lies_zero : (keys : KeysOrder) (total : IsTotalOrder order) → (op : Cmp) → op ≢ Ne → (z : ℤ) → IsInRange z → in_range (key_bytes (number z)) (range_by op (number (pos 0))) ≡ takes op (int_cmp z (pos 0))
lies_zero keys total op n z p = lies_by keys total op n (number z) (number (pos 0)) tt p zero_fits tt refl

blank_lies : (keys : KeysOrder) (total : IsTotalOrder order) → (op : Cmp) → op ≢ Ne → (t : Shape) → Compares op t → (d : Data) → IsScalar d → is_blank d ≡ false → fits_in d t ≡ true → LiesBlank op (is_numbers t) d
blank_lies keys total Eq n t o d s b e = λ p. none_there d s b ∙ sym (never_blank d s b)
blank_lies keys total Ne n t o d s b e = absurd (n refl)
blank_lies keys total Lt n numbers o d s b e = number_case (LiesBlank Lt true) (λ z p. lies_zero keys total Lt n z p) d s b e
blank_lies keys total Le n numbers o d s b e = number_case (LiesBlank Le true) (λ z p. lies_zero keys total Le n z p) d s b e
blank_lies keys total Gt n numbers o d s b e = number_case (LiesBlank Gt true) (λ z p. lies_zero keys total Gt n z p) d s b e
blank_lies keys total Ge n numbers o d s b e = number_case (LiesBlank Ge true) (λ z p. lies_zero keys total Ge n z p) d s b e
blank_lies keys total Lt n dates o d s b e = date_case (LiesBlank Lt false) (λ z p. none_there (date z) tt refl) d s b e
blank_lies keys total Le n dates o d s b e = date_case (LiesBlank Le false) (λ z p. none_there (date z) tt refl) d s b e
blank_lies keys total Gt n dates o d s b e = date_case (LiesBlank Gt false) (λ z p. none_there (date z) tt refl) d s b e
blank_lies keys total Ge n dates o d s b e = date_case (LiesBlank Ge false) (λ z p. none_there (date z) tt refl) d s b e
blank_lies keys total op n t o d s b e = absurd o

-- ---- one comparison

value_lies : (keys : KeysOrder) (total : IsTotalOrder order) → (op : Cmp) → op ≢ Ne → (t : Shape) (c : Data) → IsProper c → ColumnTakes t (op, c) → is_blank c ≡ false → (d : Data) → IsScalar d → IsProper d → fits_in d t ≡ true → is_blank d ≡ false →
    in_range (key_bytes d) (range_by op c) ≡ holds_of op d c
value_lies keys total op n t c q k v d s p e b =
    lies_by keys total op n d c (one_type t d c s k.scalar b v e k.fits) p q s b ∙ holds_is op n t k.operator d c s k.scalar b v e k.fits

pub part_lies : (keys : KeysOrder) (total : IsTotalOrder order) → (op : Cmp) → op ≢ Ne → (t : Shape) (c : Data) → IsProper c → ColumnTakes t (op, c) → (d : Data) → IsScalar d → IsProper d → fits_in d t ≡ true → is_blank d ≡ false →
    in_range (key_bytes d) (range_of op (is_numbers t) c) ≡ holds_of op d c
part_lies keys total op n t blank q k d s p e b = blank_lies keys total op n t k.operator d s b e p
part_lies keys total op n t (number z) q k d s p e b = value_lies keys total op n t (number z) q k refl d s p e b
part_lies keys total op n t (text cs) q k d s p e b = value_lies keys total op n t (text cs) q k refl d s p e b
part_lies keys total op n t (boolean x) q k d s p e b = value_lies keys total op n t (boolean x) q k refl d s p e b
part_lies keys total op n t (date z) q k d s p e b = value_lies keys total op n t (date z) q k refl d s p e b
part_lies keys total op n t c q k d s p e b = absurd (k.scalar)

by_above : (op : Cmp) (c : Data) → IsScalar c → is_blank c ≡ false → is_le (R least (range_by op c).from) ≡ true
by_above Eq c s b = key_above c s b
by_above Ne c s b = refl
by_above Lt c s b = refl
by_above Le c s b = refl
by_above Gt c s b = after_above c s b
by_above Ge c s b = key_above c s b

blank_above : (op : Cmp) (n : Bool) → is_le (R least (range_by_blank op n).from) ≡ true
blank_above Eq n = refl
blank_above Ne true = refl
blank_above Lt true = refl
blank_above Le true = refl
blank_above Gt true = by_above Gt (number (pos 0)) tt refl
blank_above Ge true = by_above Ge (number (pos 0)) tt refl
blank_above op false = refl

pub part_above : (op : Cmp) (n : Bool) (c : Data) → IsScalar c → is_le (R least (range_of op n c).from) ≡ true
part_above op n blank s = blank_above op n
part_above op n (number z) s = by_above op (number z) s refl
part_above op n (text cs) s = by_above op (text cs) s refl
part_above op n (boolean x) s = by_above op (boolean x) s refl
part_above op n (date z) s = by_above op (date z) s refl
part_above op n c s = absurd s

-- the span of one comparison
pub one_span : (keys : KeysOrder) (total : IsTotalOrder order) → (op : Cmp) → op ≢ Ne → (n : Bool) (c : Data) → IsScalar c → IsProper c → (s : Span) → s.range ≡ range_of op n c → s.blank ≡ holds_of op blank c → (n ≡ true → s.zero ≡ holds_of op (number (pos 0)) c) →
    IsSpan n s ((op, c) ∷ [])
one_span keys total op n m c u q s r b z = record {
  some = refl;
  blank = b ∙ sym (and-true (holds_of op blank c));
  zero = λ e. z e ∙ sym (and-true (holds_of op (number (pos 0)) c));
  above = ap (λ (x : KeyRange). is_le (R least x.from)) r ∙ part_above op m c u;
  lies = λ t e k d s p f h.
      ap (λ (x : KeyRange). in_range (key_bytes d) x) (r ∙ ap (λ y. range_of op y c) (sym e)) ∙ part_lies keys total op n t c q k.0 d s p f h ∙ sym (and-true (holds_of op d c));
}

-- ---- two spans

pub take_first : (t : Shape) (ps qs : List Comparison) → AllTaken t (ps ++ qs) → AllTaken t ps
take_first t [] qs k = tt
take_first t (p ∷ ps) qs k = (k.0, take_first t ps qs k.1)

pub take_second : (t : Shape) (ps qs : List Comparison) → AllTaken t (ps ++ qs) → AllTaken t qs
take_second t [] qs k = k
take_second t (p ∷ ps) qs k = take_second t ps qs k.1

four : (a b c d : Bool) → ((a && b) && (c && d)) ≡ ((a && c) && (b && d))
four true true c d = refl
four true false true d = refl
four true false false d = refl
four false b c d = refl

both_lie : (k : List ℕ) (a b : KeyRange) → in_range k (both_ranges a b) ≡ (in_range k a && in_range k b)
both_lie k a b = ap₂ (λ x y. x && y) (from_max a.from b.from k) (uptos a.upto b.upto) ∙ four (is_le (R a.from k)) (is_le (R b.from k)) (is_before_end a.upto k) (is_before_end b.upto k)
  where
    uptos : (u v : Option (List ℕ)) → is_before_end (both_upto u v) k ≡ (is_before_end u k && is_before_end v k)
    uptos None v = refl
    uptos (Some u) None = sym (and-true _)
    uptos (Some u) (Some v) = upto_min u v k

still : (ps qs : List Comparison) → is_empty ps ≡ false → is_empty (ps ++ qs) ≡ false
still [] qs h = absurd cc
still (p ∷ ps) qs h = refl

two_spans : (n : Bool) (a b : Span) (ps qs : List Comparison) → IsSpan n a ps → IsSpan n b qs → IsSpan n (both_spans a b) (ps ++ qs)
two_spans n a b ps qs h k = record {
  some = still ps qs h.some;
  blank = ap₂ (λ x y. x && y) h.blank k.blank ∙ sym (list_all-append (λ p. holds_of p.0 blank p.1) ps qs);
  zero = λ e. ap₂ (λ x y. x && y) (h.zero e) (k.zero e) ∙ sym (list_all-append (λ p. holds_of p.0 (number (pos 0)) p.1) ps qs);
  above = max_above (is_le (R a.range.from b.range.from));
  lies = λ t e w d s p f m.
      both_lie (key_bytes d) a.range b.range
      ∙ ap₂ (λ x y. x && y) (h.lies t e (take_first t ps qs w) d s p f m) (k.lies t e (take_second t ps qs w) d s p f m)
      ∙ sym (list_all-append (λ p. holds_of p.0 d p.1) ps qs);
}
  where
    max_above : (t : Bool) → is_le (R least (cond t b.range.from a.range.from)) ≡ true
    max_above true = k.above
    max_above false = h.above

pub join_spans : (n : Bool) (a b : Option Span) (ps qs : List Comparison) → IsSpanOf n a ps → IsSpanOf n b qs → IsSpanOf n (joined_spans a b) (ps ++ qs)
join_spans n None b ps qs h k = subst (λ us. IsSpanOf n b (us ++ qs)) (sym h) k
join_spans n (Some a) None ps qs h k = subst (λ us. IsSpan n a us) (sym (ap (λ us. ps ++ us) k ∙ append-nil ps)) h
join_spans n (Some a) (Some b) ps qs h k = two_spans n a b ps qs h k

-- ---- the ranges of a span

blank_not_there : (r : KeyRange) → is_le (R least r.from) ≡ true → in_range (0 ∷ []) r ≡ false
blank_not_there r h = go (is_le (R r.from (0 ∷ []))) refl
  where
    go : (t : Bool) → is_le (R r.from (0 ∷ [])) ≡ t → (t && is_before_end r.upto (0 ∷ [])) ≡ false
    go false e = refl
    go true e = absurd (let h2 : is_le (R least (0 ∷ [])) ≡ true = le_trans R nat_list_cmp_total least r.from (0 ∷ []) h e in cc)

first_there : (k : List ℕ) (t : Bool) (r : KeyRange) → in_ranges (cond t (blank_range ∷ []) [] ++ r ∷ []) k ≡ ((t && in_range k blank_range) || in_range k r)
first_there k true r = ap (λ x. in_range k blank_range || x) (or-false (in_range k r))
first_there k false r = or-false (in_range k r)

zero_there : (n : Bool) (s : Span) (ps : List Comparison) → IsSpan n s ps → (n && s.zero) ≡ (n && meets_all ps (number (pos 0)))
zero_there true s ps h = h.zero refl
zero_there false s ps h = refl

blank_sought : (n : Bool) (s : Span) (ps : List Comparison) → IsSpan n s ps → in_ranges (span_ranges n s) (0 ∷ []) ≡ (meets_all ps blank || (n && meets_all ps (number (pos 0))))
blank_sought n s ps h =
    first_there (0 ∷ []) (s.blank || (n && s.zero)) s.range
    ∙ ap (λ b. ((s.blank || (n && s.zero)) && true) || b) (blank_not_there s.range h.above)
    ∙ or-false ((s.blank || (n && s.zero)) && true)
    ∙ and-true (s.blank || (n && s.zero))
    ∙ ap₂ (λ x y. x || y) h.blank (zero_there n s ps h)

value_sought : (n : Bool) (t : Shape) → is_numbers t ≡ n → (s : Span) (ps : List Comparison) → IsSpan n s ps → AllTaken t ps → (d : Data) → IsScalar d → IsProper d → fits_in d t ≡ true → is_blank d ≡ false →
    in_ranges (span_ranges n s) (key_bytes d) ≡ (meets_all ps d || false)
value_sought n t e s ps h k d u p f b =
    first_there (key_bytes d) (s.blank || (n && s.zero)) s.range
    ∙ ap (λ x. ((s.blank || (n && s.zero)) && x) || in_range (key_bytes d) s.range) (blank_below d u b)
    ∙ ap (λ x. x || in_range (key_bytes d) s.range) (and-false (s.blank || (n && s.zero)))
    ∙ h.lies t e k d u p f b
    ∙ sym (or-false (meets_all ps d))

pub span_sought : (t : Shape) (s : Span) (ps : List Comparison) → IsSpan (is_numbers t) s ps → AllTaken t ps → AreSought t ps (span_ranges (is_numbers t) s)
span_sought t s ps h k blank u p f = blank_sought (is_numbers t) s ps h
span_sought t s ps h k (number z) u p f = value_sought (is_numbers t) t refl s ps h k (number z) u p f refl
span_sought t s ps h k (text cs) u p f = value_sought (is_numbers t) t refl s ps h k (text cs) u p f refl
span_sought t s ps h k (boolean x) u p f = value_sought (is_numbers t) t refl s ps h k (boolean x) u p f refl
span_sought t s ps h k (date z) u p f = value_sought (is_numbers t) t refl s ps h k (date z) u p f refl
span_sought t s ps h k d u p f = absurd u
