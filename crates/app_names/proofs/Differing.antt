-- What the tests of difference tell.
use Rattle.std.proofs.Common.{◌≡◌, ◌≢◌, List, [], ◌∷◌, ◌++◌, Bool, not, ◌&&◌, refl, sym}
use Rattle.std.specs.Bool.{Decides}
use Rattle.std.proofs.lemmas.Bool.Decides.{Decides-and, Decides-not, Decides-like}
use Rattle.fx_core.specs.Lawful.{AreDistinct, DiffersFromAll}
use Rattle.app_names.specs.Decided.{is_new, are_distinct, are_apart}

module _ {A : Type 0} (eq : A → A → Bool) (same : (a b : A) → Decides (eq a b) (a ≡ b)) where
  differs : (x y : A) → Decides (not (eq y x)) (x ≢ y)
  differs x y = Decides-like (not (eq y x)) (λ n e. n (sym e)) (λ n e. n (sym e)) (Decides-not (eq y x) (same y x))

  pub decides_new : (x : A) (ys : List A) → Decides (is_new eq x ys) (DiffersFromAll x ys)
  decides_new x [] = (λ _. tt, λ _. refl)
  decides_new x (y ∷ ys) = Decides-and (not (eq y x)) (is_new eq x ys) (differs x y) (decides_new x ys)

  pub decides_distinct : (xs : List A) → Decides (are_distinct eq xs) (AreDistinct xs)
  decides_distinct [] = (λ _. tt, λ _. refl)
  decides_distinct (x ∷ xs) = Decides-and (is_new eq x xs) (are_distinct eq xs) (decides_new x xs) (decides_distinct xs)

  abbrev AreApart : List A → List A → Type 0
  AreApart [] ys = Unit {0}
  AreApart (x ∷ xs) ys = DiffersFromAll x ys × AreApart xs ys

  decides_apart : (xs ys : List A) → Decides (are_apart eq xs ys) (AreApart xs ys)
  decides_apart [] ys = (λ _. tt, λ _. refl)
  decides_apart (x ∷ xs) ys = Decides-and (is_new eq x ys) (are_apart eq xs ys) (decides_new x ys) (decides_apart xs ys)

  new_in_both : (x : A) (xs ys : List A) → DiffersFromAll x xs → DiffersFromAll x ys → DiffersFromAll x (xs ++ ys)
  new_in_both x [] ys h k = k
  new_in_both x (z ∷ xs) ys h k = (h.0, new_in_both x xs ys h.1 k)

  new_in_first : (x : A) (xs ys : List A) → DiffersFromAll x (xs ++ ys) → DiffersFromAll x xs
  new_in_first x [] ys h = tt
  new_in_first x (z ∷ xs) ys h = (h.0, new_in_first x xs ys h.1)

  new_in_second : (x : A) (xs ys : List A) → DiffersFromAll x (xs ++ ys) → DiffersFromAll x ys
  new_in_second x [] ys h = h
  new_in_second x (z ∷ xs) ys h = new_in_second x xs ys h.1

  joined : (xs ys : List A) → AreDistinct xs → AreDistinct ys → AreApart xs ys → AreDistinct (xs ++ ys)
  joined [] ys h k a = k
  joined (x ∷ xs) ys h k a = (new_in_both x xs ys h.0 a.0, joined xs ys h.1 k a.1)

  split : (xs ys : List A) → AreDistinct (xs ++ ys) → AreDistinct xs × (AreDistinct ys × AreApart xs ys)
  split [] ys h = (tt, (h, tt))
  split (x ∷ xs) ys h = let k = split xs ys h.1 in ((new_in_first x xs ys h.0, k.0), (k.1.0, (new_in_second x xs ys h.0, k.1.1)))

  both : (xs ys : List A) → Decides (are_distinct eq ys && are_apart eq xs ys) (AreDistinct ys × AreApart xs ys)
  both xs ys = Decides-and (are_distinct eq ys) (are_apart eq xs ys) (decides_distinct ys) (decides_apart xs ys)

  all_three : (xs ys : List A) → Decides (are_distinct eq xs && (are_distinct eq ys && are_apart eq xs ys)) (AreDistinct xs × (AreDistinct ys × AreApart xs ys))
  all_three xs ys = Decides-and (are_distinct eq xs) (are_distinct eq ys && are_apart eq xs ys) (decides_distinct xs) (both xs ys)

  pub decides_joined : (xs ys : List A) → Decides (are_distinct eq xs && (are_distinct eq ys && are_apart eq xs ys)) (AreDistinct (xs ++ ys))
  decides_joined xs ys =
      ((λ h. let k = (all_three xs ys).0 h in joined xs ys k.0 k.1.0 k.1.1), (λ h. (all_three xs ys).1 (split xs ys h)))
