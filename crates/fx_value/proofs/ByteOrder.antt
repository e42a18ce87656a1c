-- The order of lists of bytes, and what the tests of an ordering say together.
use Rattle.std.proofs.Common.{◌≡◌, ℕ, zero, suc, List, [], ◌∷◌, ◌++◌, refl, sym, ap, ◌∙◌, arith, ◌<◌, true, false, not, ◌&&◌}
use Rattle.std.specs.Cmp.{IsTotalOrder}
use Rattle.std.specs.Cmp.Lexicographic.{slice_cmp}
use Rattle.std.specs.Ordering.{nat_cmp, ordering_then, ordering_reverse, is_le, is_lt, is_gt, is_eq}
use Rattle.std.specs.declared.cmp.Ordering.{Ordering}
use Rattle.std.specs.declared.cmp.Ordering.TheVariants.{Less, Equal, Greater}
use Rattle.std.proofs.lemmas.Cmp.{upto}
use Rattle.std.proofs.lemmas.Bool.Decides.{nat_tests}

abbrev pub R : List ℕ → List ℕ → Ordering
R = slice_cmp nat_cmp

less : (x y : ℕ) → x < y → nat_cmp x y ≡ Less
less x y h = grind (arith, nat_tests)

greater : (x y : ℕ) → y < x → nat_cmp x y ≡ Greater
greater x y h = grind (arith, nat_tests)

then_le : (o p q : Ordering) → is_le p ≡ is_lt q → is_le (ordering_then o p) ≡ is_lt (ordering_then o q)
then_le Less p q h = refl
then_le Equal p q h = h
then_le Greater p q h = refl

-- the next key after a: what lies from it on is above a
pub after_from : (a b : List ℕ) → is_le (R (a ++ 0 ∷ []) b) ≡ is_lt (R a b)
after_from [] [] = refl
after_from [] (zero ∷ []) = refl
after_from [] (zero ∷ y ∷ ys) = refl
after_from [] (suc y ∷ ys) = ap (λ o. is_le (ordering_then o (R [] ys))) (less 0 (suc y) (omega arith))
after_from (x ∷ xs) [] = refl
after_from (x ∷ xs) (y ∷ ys) = then_le (nat_cmp x y) _ _ (after_from xs ys)

-- .. and what lies before it is at most a
pub before_after : (b a : List ℕ) → is_lt (R b (a ++ 0 ∷ [])) ≡ is_le (R b a)
before_after [] [] = refl
before_after (zero ∷ []) [] = refl
before_after (zero ∷ y ∷ ys) [] = refl
before_after (suc y ∷ ys) [] = ap (λ o. is_lt (ordering_then o (R ys []))) (greater (suc y) 0 (omega arith))
before_after [] (x ∷ xs) = refl
before_after (y ∷ ys) (x ∷ xs) = sym (then_le (nat_cmp y x) _ _ (sym (before_after ys xs)))

le_gt : (o : Ordering) → is_le o ≡ true → is_gt o ≡ false
le_gt Less h = refl
le_gt Equal h = refl
le_gt Greater h = absurd cc

gt_le : (o : Ordering) → is_gt o ≡ false → is_le o ≡ true
gt_le Less h = refl
gt_le Equal h = refl
gt_le Greater h = absurd cc

lt_reversed : (o : Ordering) → is_lt (ordering_reverse o) ≡ not (is_le o)
lt_reversed Less = refl
lt_reversed Equal = refl
lt_reversed Greater = refl

pub both_reversed : (o : Ordering) → (is_le (ordering_reverse o) && is_le o) ≡ is_eq o
both_reversed Less = refl
both_reversed Equal = refl
both_reversed Greater = refl

module _ {K : Type 0} (C : K → K → Ordering) (total : IsTotalOrder C) where
  pub le_trans : (a b c : K) → is_le (C a b) ≡ true → is_le (C b c) ≡ true → is_le (C a c) ≡ true
  le_trans a b c h k = gt_le _ (upto total a b c (le_gt _ h) (le_gt _ k))

  pub lt_is : (a b : K) → is_lt (C a b) ≡ not (is_le (C b a))
  lt_is a b = ap is_lt (total.antisymm a b) ∙ lt_reversed (C b a)

  pub le_le : (a b : K) → (is_le (C a b) && is_le (C b a)) ≡ is_eq (C b a)
  le_le a b = ap (λ o. is_le o && is_le (C b a)) (total.antisymm a b) ∙ both_reversed (C b a)

  pub not_le : (a b : K) → is_le (C a b) ≡ false → is_le (C b a) ≡ true
  not_le a b h = go (C b a) (sym (ap is_le (total.antisymm a b)) ∙ h)
    where
      go : (o : Ordering) → is_le (ordering_reverse o) ≡ false → is_le o ≡ true
      go Less e = refl
      go Equal e = refl
      go Greater e = absurd cc
