-- Values that are moved to other places, one for each.
use Rattle.std.proofs.Common.{◌≡◌, ℕ, zero, suc, ◌+◌, ◌≤◌, List, [], ◌∷◌, ◌++◌, get_or, set, map, Option, Some, None, Bool, true, false, refl, sym, ◌∙◌, ap, subst, arith, get_or-set_other}
use Rattle.std.specs.Prelude.{MatchOption, option_and_then, slice_get, if◌then◌else◌, ◌&&◌}
use Rattle.std.specs.List.{range_with_len}
use Rattle.std.proofs.lemmas.Bool.{eqb-true}
use Rattle.std.proofs.lemmas.List.FromFn.{map-range_with_len_more}
use Rattle.fx_types.specs.Values.{Data}
use Rattle.fx_types.specs.ValueView.{view}
use Rattle.fx_types.specs.declared.types.Ty.{Ty}
use Rattle.fx_types.specs.declared.values.Value.{Value}
use Rattle.fx_types.specs.TypeView.{shape}
use Rattle.fx_typing.specs.Ways.{same_shape}
use Rattle.session_state.specs.Carrying.{is_place, value_or, was_at, carried_values}

-- what a value is seen as, where it is one of these or the other
seen : (v : Value) (vs : List Value) (k : ℕ) → view (get_or vs k v) ≡ get_or (map view vs) k (view v)
seen v [] k = refl
seen v (x ∷ xs) zero = refl
seen v (x ∷ xs) (suc k) = seen v xs k

value_seen : (v : Value) (vs : List Value) (o : Option ℕ) → view (value_or v vs o) ≡ value_or (view v) (map view vs) o
value_seen v vs (Some k) = seen v vs k
value_seen v vs None = refl

-- what is still to be moved is where it was
abbrev pub IsLeft : {V : Type 0} → (ℕ → Option ℕ) → ℕ → List V → List V → Type 0
IsLeft {V} was j vs us = (k i : ℕ) (d : V) → j ≤ k → was k ≡ Some i → get_or vs i d ≡ get_or us i d

-- so many of those that are moved, and the others left
pub record IsMoving (was : ℕ → Option ℕ) (d : Data) (n : ℕ) (us vs to : List Value) (len cap j : ℕ) : Type 0 where
  pub done : map view to ≡ carried_values was d (map view us) j
  pub left : IsLeft was j vs us
  pub room : n ≤ cap
  pub few : len ≡ j

-- no two come from one place
abbrev pub AreApart : (ℕ → Option ℕ) → Type 0
AreApart was = (j k i : ℕ) → was j ≡ Some i → was k ≡ Some i → j ≡ k

value_left : {V : Type 0} (was : ℕ → Option ℕ) (j : ℕ) (vs us : List V) (v : V) (o : Option ℕ) → was j ≡ o → IsLeft was j vs us → value_or v vs o ≡ value_or v us o
value_left was j vs us v (Some i) e h = h j i v (omega arith) e
value_left was j vs us v None e h = refl

pub left_more : {V : Type 0} (was : ℕ → Option ℕ) (j j' : ℕ) (vs ws us : List V) (v : V) (o : Option ℕ) → AreApart was → j' ≡ j + 1 → was j ≡ o → MatchOption o (ws ≡ vs) (λ k. ws ≡ set vs k v) → IsLeft was j vs us → IsLeft was j' ws us
left_more was j j' vs ws us v None apart next e is h = λ k i d le f. ap (λ xs. get_or xs i d) is ∙ h k i d (omega arith) f
left_more was j j' vs ws us v (Some i') apart next e is h = λ k i d le f.
    let other : i ≡ i' → ⊥ = λ same. let g : was j ≡ Some i = e ∙ ap (λ (m : ℕ). Some m) (sym same) in let eq : j ≡ k = apart j k i g f in omega arith in
    ap (λ xs. get_or xs i d) is ∙ get_or-set_other vs i' i v d other ∙ h k i d (omega arith) f

-- those that are moved, and one more
map_push : (vs : List Value) (v : Value) → map view (vs ++ v ∷ []) ≡ map view vs ++ view v ∷ []
map_push [] v = refl
map_push (x ∷ xs) v = ap (λ (ds : List Data). view x ∷ ds) (map_push xs v)

pub moved_more : (was : ℕ → Option ℕ) (j j' : ℕ) (vs us to to' : List Value) (v w : Value) (d : Data) → j' ≡ j + 1 → view v ≡ d → IsLeft was j vs us → w ≡ value_or v vs (was j) → to' ≡ to ++ w ∷ [] → map view to ≡ carried_values was d (map view us) j → map view to' ≡ carried_values was d (map view us) j'
moved_more was j j' vs us to to' v w d next is left value more done =
    let f : ℕ → Data = λ k. value_or d (map view us) (was k) in
    let one : view w ≡ f j = ap view (value ∙ value_left was j vs us v (was j) refl left) ∙ value_seen v us (was j) ∙ ap (λ (x : Data). value_or x (map view us) (was j)) is in
    ap (map view) more ∙ map_push to w ∙ ap (λ (ds : List Data). ds ++ view w ∷ []) done ∙ ap (λ (x : Data). map f (range_with_len 0 j) ++ x ∷ []) one
    ∙ sym (map-range_with_len_more f 0 j j (omega arith)) ∙ ap (λ (m : ℕ). map f (range_with_len 0 m)) (sym next)

-- the same of things that are seen as they are
pub record AreMoving {V : Type 0} (was : ℕ → Option ℕ) (d : V) (n : ℕ) (us vs to : List V) (len cap j : ℕ) : Type 0 where
  pub done : to ≡ carried_values was d us j
  pub left : IsLeft was j vs us
  pub room : n ≤ cap
  pub few : len ≡ j

pub one_moved : {V : Type 0} (was : ℕ → Option ℕ) (j j' : ℕ) (vs us to to' : List V) (w d : V) → j' ≡ j + 1 → IsLeft was j vs us → w ≡ value_or d vs (was j) → to' ≡ to ++ w ∷ [] → to ≡ carried_values was d us j → to' ≡ carried_values was d us j'
one_moved {V} was j j' vs us to to' w d next left value more done =
    let f : ℕ → V = λ k. value_or d us (was k) in
    let one : w ≡ f j = value ∙ value_left was j vs us d (was j) refl left in
    more ∙ ap (λ l. l ++ w ∷ []) done ∙ ap (λ x. map f (range_with_len 0 j) ++ x ∷ []) one
    ∙ sym (map-range_with_len_more f 0 j j (omega arith)) ∙ ap (λ (m : ℕ). map f (range_with_len 0 m)) (sym next)

-- ---- two things don't stand for one old one

abbrev stands : {A : Type 0} (type : A → Ty) (in_new : A → Option ℕ) (y : A) (j i : ℕ) (x : A) → Option ℕ
stands type in_new y j i x = if is_place j (in_new x) && same_shape (shape (type x)) (shape (type y)) then Some i else None

-- where a thing was, with what it was
pub record Was {A : Type 0} (type : A → Ty) (in_old in_new : A → Option ℕ) (olds news : List A) (j i : ℕ) : Type 0 where
  pub new : A
  pub old : A
  pub new_at : slice_get news j ≡ Some new
  pub old_at : slice_get olds i ≡ Some old
  pub found : in_old new ≡ Some i
  pub back : in_new old ≡ Some j
  pub type_same : same_shape (shape (type old)) (shape (type new)) ≡ true

place_is : (j : ℕ) (o : Option ℕ) → is_place j o ≡ true → o ≡ Some j
place_is j (Some k) e = let same : j ≡ k = eqb-true j k e in ap (λ (m : ℕ). Some m) (sym same)
place_is j None e = absurd cc

module _ {A : Type 0} (type : A → Ty) (in_old in_new : A → Option ℕ) (olds news : List A) (j i : ℕ) where
  at_test : (y x : A) (k : ℕ) (p q : Bool) → slice_get news j ≡ Some y → in_old y ≡ Some k → slice_get olds k ≡ Some x → is_place j (in_new x) ≡ p → same_shape (shape (type x)) (shape (type y)) ≡ q → (if p && q then Some k else None) ≡ Some i → Was type in_old in_new olds news j i
  at_test y x k true true new found old back same e =
      let is : k ≡ i = let h : Some k ≡ Some i = e in cc in
      record {
        new = y;
        old = x;
        new_at = new;
        old_at = subst (λ (m : ℕ). slice_get olds m ≡ Some x) is old;
        found = subst (λ (m : ℕ). in_old y ≡ Some m) is found;
        back = place_is j (in_new x) back;
        type_same = same;
      }
  at_test y x k true false new found old back same e = absurd cc
  at_test y x k false q new found old back same e = absurd cc

  at_old : (y : A) (k : ℕ) (o : Option A) → slice_get news j ≡ Some y → in_old y ≡ Some k → slice_get olds k ≡ o → option_and_then (stands type in_new y j k) o ≡ Some i → Was type in_old in_new olds news j i
  at_old y k (Some x) new found old e = at_test y x k _ _ new found old refl refl e
  at_old y k None new found old e = absurd cc

  at_found : (y : A) (o : Option ℕ) → slice_get news j ≡ Some y → in_old y ≡ o → option_and_then (λ k. option_and_then (stands type in_new y j k) (slice_get olds k)) o ≡ Some i → Was type in_old in_new olds news j i
  at_found y (Some k) new found e = at_old y k _ new found refl e
  at_found y None new found e = absurd cc

  at_new : (o : Option A) → slice_get news j ≡ o → option_and_then (λ y. option_and_then (λ k. option_and_then (stands type in_new y j k) (slice_get olds k)) (in_old y)) o ≡ Some i → Was type in_old in_new olds news j i
  at_new (Some y) new e = at_found y _ new refl e
  at_new None new e = absurd cc

  pub was : was_at type in_old in_new olds news j ≡ Some i → Was type in_old in_new olds news j i
  was e = at_new _ refl e

pub apart : {A : Type 0} (type : A → Ty) (in_old in_new : A → Option ℕ) (olds news : List A) → AreApart (was_at type in_old in_new olds news)
apart type in_old in_new olds news = λ j k i e f.
    let a = was type in_old in_new olds news j i e in
    let b = was type in_old in_new olds news k i f in
    let same : a.old ≡ b.old = let h : Some a.old ≡ Some b.old = sym a.old_at ∙ b.old_at in cc in
    let at : Some j ≡ Some k = sym a.back ∙ ap in_new same ∙ b.back in cc
