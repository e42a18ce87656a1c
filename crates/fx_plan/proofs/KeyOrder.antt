-- The order of keys, and of what lies between two of them.
use Rattle.std.proofs.Common.{◌≡◌, ℕ, List, [], ◌∷◌, refl, sym, ◌∙◌, Bool, true, false, not, cond, ◌&&◌}
use Rattle.std.specs.Cmp.Lexicographic.{nat_list_cmp_total}
use Rattle.std.specs.Ordering.{is_le, is_lt}
use Rattle.std.proofs.lemmas.Bool.{not-true}
use Rattle.fx_value.proofs.ByteOrder.{R, le_trans, lt_is, not_le}

and_second : (p q : Bool) → (q ≡ true → p ≡ true) → q ≡ (p && q)
and_second p false h = go p
  where
    go : (p : Bool) → false ≡ (p && false)
    go true = refl
    go false = refl
and_second p true h = rw (h refl) refl

and_first : (p q : Bool) → (p ≡ true → q ≡ true) → p ≡ (p && q)
and_first true q h = sym (h refl)
and_first false q h = refl

pub from_max : (a b k : List ℕ) → is_le (R (cond (is_le (R a b)) b a) k) ≡ (is_le (R a k) && is_le (R b k))
from_max a b k = go (is_le (R a b)) refl
  where
    go : (t : Bool) → is_le (R a b) ≡ t → is_le (R (cond t b a) k) ≡ (is_le (R a k) && is_le (R b k))
    go true e = and_second _ _ (λ h. le_trans R nat_list_cmp_total a b k e h)
    go false e = and_first _ _ (λ h. le_trans R nat_list_cmp_total b a k (not_le R nat_list_cmp_total a b e) h)

lt_le : (k a b : List ℕ) → is_lt (R k a) ≡ true → is_le (R a b) ≡ true → is_lt (R k b) ≡ true
lt_le k a b h e = lt_is R nat_list_cmp_total k b ∙ go (is_le (R b k)) refl
  where
    go : (t : Bool) → is_le (R b k) ≡ t → not t ≡ true
    go false f = refl
    go true f = absurd (let g : is_le (R a k) ≡ true = le_trans R nat_list_cmp_total a b k e f in
        let i : is_le (R a k) ≡ false = not-true _ (sym (lt_is R nat_list_cmp_total k a) ∙ h) in cc)

pub upto_min : (a b k : List ℕ) → is_lt (R k (cond (is_le (R a b)) a b)) ≡ (is_lt (R k a) && is_lt (R k b))
upto_min a b k = go (is_le (R a b)) refl
  where
    go : (t : Bool) → is_le (R a b) ≡ t → is_lt (R k (cond t a b)) ≡ (is_lt (R k a) && is_lt (R k b))
    go true e = and_first _ _ (λ h. lt_le k a b h e)
    go false e = and_second _ _ (λ h. lt_le k b a h (not_le R nat_list_cmp_total a b e))

-- the least key of a value
pub least_below : (bs : List ℕ) → is_le (R (1 ∷ []) (1 ∷ bs)) ≡ true
least_below [] = refl
least_below (b ∷ bs) = refl

pub none_below : (bs : List ℕ) → is_lt (R (1 ∷ bs) (1 ∷ [])) ≡ false
none_below [] = refl
none_below (b ∷ bs) = refl
