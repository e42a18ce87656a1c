-- How totals grow by one number.
use Rattle.std.proofs.Common.{◌≡◌, ◌⊎◌, inl, inr, ℕ, ◌+◌, ◌<◌, ℤ, pos, ◌+ℤ◌, ◌≤ℤ◌, List, [], ◌∷◌, ◌++◌, length, get_or, take, map, fold, Option, Some, None, MatchOption, refl, sym, ap, subst, ◌∙◌, arith, append-nil}
use Rattle.std.specs.Prelude.{IsSomeAnd}
use Rattle.std.specs.List.{All, Contains, cons_option, filter_map}
use Rattle.std.proofs.lemmas.Int.{ints}
use Rattle.std.proofs.lemmas.List.{length_push, map-append, take_more}
use Rattle.std.proofs.lemmas.List.Elements.{filter_map-append, All-push, All-nil, All-weaker, Contains-push, Contains-append_left}
use Rattle.fx_types.specs.Values.{Data, number}
use Rattle.fx_types.specs.ValueView.{view}
use Rattle.fx_types.specs.declared.aggregates.Totals.{Totals}
use Rattle.fx_types.specs.declared.values.Value.{Value}
use Rattle.fx_types.specs.declared.values.Value.TheVariants.{Blank, Number, Text, Boolean, Date, Rec, Tab, Fault}
use Rattle.fx_value.specs.Aggregates.{number_if_one, numbers_in, sum_of, IsLeast, IsGreatest, IsLesser, IsGreater, SumsUp}

pub numbers_with : (ds : List Data) (d : Data) (z : ℤ) → d ≡ number z → numbers_in (ds ++ d ∷ []) ≡ numbers_in ds ++ z ∷ []
numbers_with ds d z e = filter_map-append number_if_one ds (d ∷ []) ∙ ap (λ x. numbers_in ds ++ cons_option (number_if_one x) []) e

no_number : (v : Value) → ((x : ℤ) → v ≡ Number x → ⊥) → number_if_one (view v) ≡ None
no_number Blank h = refl
no_number (Number n) h = absurd (h n refl)
no_number (Text w) h = refl
no_number (Boolean b) h = refl
no_number (Date d) h = refl
no_number (Rec fs) h = refl
no_number (Tab rs) h = refl
no_number (Fault f) h = refl

pub numbers_without : (ds : List Data) (v : Value) → ((x : ℤ) → v ≡ Number x → ⊥) → numbers_in (ds ++ view v ∷ []) ≡ numbers_in ds
numbers_without ds v h =
    filter_map-append number_if_one ds (view v ∷ []) ∙ ap (λ x. numbers_in ds ++ cons_option x []) (no_number v h) ∙ append-nil (numbers_in ds)

fold_push : {A B : Type 0} (f : A → B → A) (a : A) (xs : List B) (y : B) → fold f a (xs ++ y ∷ []) ≡ f (fold f a xs) y
fold_push f a [] y = refl
fold_push f a (x ∷ xs) y = fold_push f (f a x) xs y

upto_itself : (z : ℤ) → z ≤ℤ z
upto_itself z = omega (arith, ints)

upto_further : (a b c : ℤ) → a ≤ℤ b → b ≤ℤ c → a ≤ℤ c
upto_further a b c h k = omega (arith, ints)

at_equal : (a b : ℤ) → a ≡ b → a ≤ℤ b
at_equal a b e = subst (λ (x : ℤ). a ≤ℤ x) e (upto_itself a)

contains_one : (zs : List ℤ) (m z r : ℤ) → Contains zs m → (r ≡ m) ⊎ (r ≡ z) → Contains (zs ++ z ∷ []) r
contains_one zs m z r c (inl e) = subst (Contains (zs ++ z ∷ [])) (sym e) (Contains-append_left zs (z ∷ []) m c)
contains_one zs m z r c (inr e) = subst (Contains (zs ++ z ∷ [])) (sym e) (Contains-push zs z)

least_more : (zs : List ℤ) (o : Option ℤ) (z r : ℤ) → IsLeast zs o → IsLesser o z r → IsLeast (zs ++ z ∷ []) (Some r)
least_more zs None z r h e =
    let P : List ℤ → Type 0 = λ ws. All (λ w. r ≤ℤ w) ws in
    (subst (Contains (zs ++ z ∷ [])) (sym e) (Contains-push zs z), All-push (λ w. r ≤ℤ w) zs z (subst P (sym h) (All-nil (λ w. r ≤ℤ w))) (at_equal r z e))
least_more zs (Some m) z r h e =
    (contains_one zs m z r h.0 e.0, All-push (λ w. r ≤ℤ w) zs z (All-weaker (λ w. m ≤ℤ w) (λ w. r ≤ℤ w) (λ w k. upto_further r m w e.1 k) zs h.1) e.2)

greatest_more : (zs : List ℤ) (o : Option ℤ) (z r : ℤ) → IsGreatest zs o → IsGreater o z r → IsGreatest (zs ++ z ∷ []) (Some r)
greatest_more zs None z r h e =
    let P : List ℤ → Type 0 = λ ws. All (λ w. w ≤ℤ r) ws in
    (subst (Contains (zs ++ z ∷ [])) (sym e) (Contains-push zs z), All-push (λ w. w ≤ℤ r) zs z (subst P (sym h) (All-nil (λ w. w ≤ℤ r))) (at_equal z r (sym e)))
greatest_more zs (Some m) z r h e =
    (contains_one zs m z r h.0 e.0, All-push (λ w. w ≤ℤ r) zs z (All-weaker (λ w. w ≤ℤ m) (λ w. w ≤ℤ r) (λ w k. upto_further w m r k e.1) zs h.1) e.2)

least_some : (zs : List ℤ) (o made : Option ℤ) (z : ℤ) → IsLeast zs o → IsSomeAnd made (IsLesser o z) → IsLeast (zs ++ z ∷ []) made
least_some zs o None z h e = absurd e
least_some zs o (Some r) z h e = least_more zs o z r h e

greatest_some : (zs : List ℤ) (o made : Option ℤ) (z : ℤ) → IsGreatest zs o → IsSomeAnd made (IsGreater o z) → IsGreatest (zs ++ z ∷ []) made
greatest_some zs o None z h e = absurd e
greatest_some zs o (Some r) z h e = greatest_more zs o z r h e

-- one more number
pub sums_more : (t made : Totals) (z : ℤ) (zs : List ℤ) → SumsUp zs t → made.count ≡ t.count + 1 → made.sum ≡ t.sum +ℤ z → IsSomeAnd made.least (IsLesser t.least z) → IsSomeAnd made.greatest (IsGreater t.greatest z) → SumsUp (zs ++ z ∷ []) made
sums_more t made z zs h count e lesser greater = record {
  count = count ∙ ap (λ n. n + 1) h.count ∙ sym (length_push zs z);
  sum = e ∙ ap (λ x. x +ℤ z) h.sum ∙ sym (fold_push ◌+ℤ◌ (pos 0) zs z);
  has_least = least_some zs t.least made.least z h.has_least lesser;
  has_greatest = greatest_some zs t.greatest made.greatest z h.has_greatest greater;
}

-- the values up to the next place
pub seen_more : (xs : List Value) (i : ℕ) (x : Value) → i < length xs → x ≡ get_or xs i x → map view (take (i + 1) xs) ≡ map view (take i xs) ++ view x ∷ []
seen_more xs i x h e =
    ap (map view) (take_more xs i x h) ∙ map-append view (take i xs) (get_or xs i x ∷ []) ∙ ap (λ y. map view (take i xs) ++ view y ∷ []) (sym e)
