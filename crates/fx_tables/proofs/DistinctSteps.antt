-- The distinct values so far, and their keys.
use Rattle.std.proofs.Common.{◌≡◌, ℕ, zero, suc, ◌+◌, ◌<◌, List, [], ◌∷◌, ◌++◌, length, get_or, take, map, Bool, true, false, not, refl, sym, ap, subst, ◌∙◌, arith, cond, if◌then◌else◌, append-nil}
use Rattle.std.specs.Prelude.{◌||◌}
use Rattle.std.specs.List.{All, filter, list_any}
use Rattle.std.specs.Cmp.Lexicographic.{slice_cmp}
use Rattle.std.specs.Ordering.{nat_cmp, is_eq}
use Rattle.std.specs.BTreeSet.{BTreeSet, contains}
use Rattle.std.specs.declared.alloc.Global.{Global}
use Rattle.std.specs.declared.vec.Vec.{Vec}
use Rattle.std.proofs.lemmas.List.{map-append, take-map}
use Rattle.std.proofs.lemmas.List.Elements.{All-head, All-tail, All-take, All-weaker, filter-append}
use Rattle.std.proofs.lemmas.List.Folds.{list_any-append}
use Rattle.fx_types.specs.Values.{Data, blank, number, text, boolean, date, rec, tab, fault}
use Rattle.fx_types.specs.ValueView.{view}
use Rattle.fx_types.specs.declared.values.Value.{Value}
use Rattle.fx_value.specs.Order.{order, AreOfOneType, IsScalar}
use Rattle.fx_value.specs.Keys.{key_bytes, IsProper, KeysOrder}
use Rattle.fx_value.specs.Columns.{Row}
use Rattle.fx_tables.specs.Distinct.{distinct_of, value_row}
use Rattle.fx_value.specs.Ordered.{AreKeys}
use Rattle.fx_tables.specs.Seen.{HoldsFirsts, is_key_among, key_order}

-- whether a value is among these, as the order tells them apart
abbrev pub is_among : Data → List Data → Bool
is_among d ds = list_any (λ e. is_eq (order e d)) ds

abbrev pub differs : Data → Data → Bool
differs d e = not (is_eq (order d e))

-- one more value
pub distinct_more : (ds : List Data) (d : Data) → distinct_of (ds ++ d ∷ []) ≡ (if is_among d ds then distinct_of ds else distinct_of ds ++ d ∷ [])
distinct_more [] d = refl
distinct_more (e ∷ ds) d =
    ap (λ zs. e ∷ filter (differs e) zs) (distinct_more ds d) ∙ by (is_eq (order e d)) refl (is_among d ds)
  where
    one : (b : Bool) → is_eq (order e d) ≡ b → filter (differs e) (d ∷ []) ≡ (if b then [] else d ∷ [])
    one true q = rw q refl
    one false q = rw q refl

    by : (b : Bool) → is_eq (order e d) ≡ b → (k : Bool) → e ∷ filter (differs e) (if k then distinct_of ds else distinct_of ds ++ d ∷ []) ≡ (if b || k then e ∷ filter (differs e) (distinct_of ds) else (e ∷ filter (differs e) (distinct_of ds)) ++ d ∷ [])
    by true q true = refl
    by true q false = ap (λ zs. e ∷ zs) (filter-append (differs e) (distinct_of ds) (d ∷ []) ∙ ap (λ zs. filter (differs e) (distinct_of ds) ++ zs) (one true q) ∙ append-nil (filter (differs e) (distinct_of ds)))
    by false q true = refl
    by false q false = ap (λ zs. e ∷ zs) (filter-append (differs e) (distinct_of ds) (d ∷ []) ∙ ap (λ zs. filter (differs e) (distinct_of ds) ++ zs) (one false q))

-- what the key tells, the order tells
pub keys_tell_among : KeysOrder → (ds : List Data) (d : Data) → All (λ e. AreOfOneType e d) ds → All IsProper ds → IsProper d → is_key_among (key_bytes d) ds ≡ is_among d ds
keys_tell_among ko [] d t p q = refl
keys_tell_among ko (e ∷ ds) d t p q =
    let first = ko e d (All-head (λ x. AreOfOneType x d) e ds t) (All-head IsProper e ds p) q in
    let rest = keys_tell_among ko ds d (All-tail (λ x. AreOfOneType x d) e ds t) (All-tail IsProper e ds p) q in
    λ i. is_eq (first i) || rest i

or_last : (a b : Bool) → cond b true a ≡ (a || (b || false))
or_last true true = refl
or_last true false = refl
or_last false true = refl
or_last false false = refl

-- the set has one more key
pub keys_more : (seen newer : BTreeSet (Vec ℕ Global)) (key : Vec ℕ Global) (ds : List Data) (d : Data) → ((q : Vec ℕ Global) → contains key_order newer q ≡ cond (is_eq (key_order key q)) true (contains key_order seen q)) → key.items ≡ key_bytes d → ((q : Vec ℕ Global) → contains key_order seen q ≡ is_key_among q.items ds) → (q : Vec ℕ Global) → contains key_order newer q ≡ is_key_among q.items (ds ++ d ∷ [])
keys_more seen newer key ds d up of old q =
    up q
    ∙ (λ i. cond (is_eq (slice_cmp nat_cmp (of i) q.items)) true (old q i))
    ∙ or_last (is_key_among q.items ds) (is_eq (slice_cmp nat_cmp (key_bytes d) q.items))
    ∙ sym (list_any-append (λ e. is_eq (slice_cmp nat_cmp (key_bytes e) q.items)) ds (d ∷ []))

-- whether the value's key was there
pub was_among : KeysOrder → (seen : BTreeSet (Vec ℕ Global)) (key : Vec ℕ Global) (rows : List Row) (ds : List Data) (d : Data) → HoldsFirsts seen rows ds → key.items ≡ key_bytes d → All (λ e. AreOfOneType e d) ds → All IsProper ds → IsProper d → contains key_order seen key ≡ is_among d ds
was_among ko seen key rows ds d h of t p q = h.keys_are key ∙ ap (λ k. is_key_among k ds) of ∙ keys_tell_among ko ds d t p q

pub firsts_same : (seen newer : BTreeSet (Vec ℕ Global)) (rows : List Row) (ds : List Data) (d : Data) → HoldsFirsts seen rows ds → is_among d ds ≡ true → ((q : Vec ℕ Global) → contains key_order newer q ≡ is_key_among q.items (ds ++ d ∷ [])) → HoldsFirsts newer rows (ds ++ d ∷ [])
firsts_same seen newer rows ds d h e keys = record {
  rows_are = h.rows_are ∙ ap (map value_row) (sym (distinct_more ds d ∙ ap (λ b. if b then distinct_of ds else distinct_of ds ++ d ∷ []) e));
  keys_are = keys;
}

pub firsts_more : (seen newer : BTreeSet (Vec ℕ Global)) (rows wider : List Row) (ds : List Data) (d : Data) → HoldsFirsts seen rows ds → is_among d ds ≡ false → wider ≡ rows ++ value_row d ∷ [] → ((q : Vec ℕ Global) → contains key_order newer q ≡ is_key_among q.items (ds ++ d ∷ [])) → HoldsFirsts newer wider (ds ++ d ∷ [])
firsts_more seen newer rows wider ds d h e w keys = record {
  rows_are =
      w ∙ ap (λ z. z ++ value_row d ∷ []) h.rows_are ∙ sym (map-append value_row (distinct_of ds) (d ∷ []))
      ∙ ap (map value_row) (sym (distinct_more ds d ∙ ap (λ b. if b then distinct_of ds else distinct_of ds ++ d ∷ []) e));
  keys_are = keys;
}

-- what holds of all values holds of one, and of those before it
pub all_at : (P : Data → Type 0) (xs : List Value) (i : ℕ) (x : Value) → i < length xs → x ≡ get_or xs i x → All P (map view xs) → P (view x)
all_at P [] i x h e a = absurd (omega arith)
all_at P (y ∷ xs) zero x h e a = subst (λ (v : Value). P (view v)) (sym e) (All-head P (view y) (map view xs) a)
all_at P (y ∷ xs) (suc i) x h e a = all_at P xs i x (omega arith) e (All-tail P (view y) (map view xs) a)

pub all_before : (P : Data → Type 0) (xs : List Value) (i : ℕ) → All P (map view xs) → All P (map view (take i xs))
all_before P xs i a = subst (All P) (take-map view i xs) (All-take P i (map view xs) a)

pub goes_with_earlier : (xs : List Value) (i : ℕ) (x : Value) → i < length xs → x ≡ get_or xs i x → AreKeys (map view xs) → All (λ e. AreOfOneType e (view x)) (map view (take i xs))
goes_with_earlier xs i x h e keys =
    All-weaker (λ a. All (AreOfOneType a) (map view xs)) (λ a. AreOfOneType a (view x)) (λ a k. all_at (AreOfOneType a) xs i x h e k) (map view (take i xs))
    (all_before (λ a. All (AreOfOneType a) (map view xs)) xs i keys)

own_scalar : (d : Data) → AreOfOneType d d → IsScalar d
own_scalar blank h = tt
own_scalar (number z) h = tt
own_scalar (text cs) h = tt
own_scalar (boolean b) h = tt
own_scalar (date z) h = tt
own_scalar (rec fs) h = absurd h
own_scalar (tab rs) h = absurd h
own_scalar (fault k cs) h = absurd h

pub scalar_at : (xs : List Value) (i : ℕ) (x : Value) → i < length xs → x ≡ get_or xs i x → AreKeys (map view xs) → IsScalar (view x)
scalar_at xs i x h e keys =
    own_scalar (view x) (all_at (λ b. AreOfOneType (view x) b) xs i x h e (all_at (λ a. All (AreOfOneType a) (map view xs)) xs i x h e keys))
