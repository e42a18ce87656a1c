-- One request more of a list.
use Rattle.std.proofs.Common.{◌≡◌, ℕ, ◌+◌, List, [], ◌∷◌, ◌++◌, map, flat_map, sym, ap, ap₂, ◌∙◌, append_assoc, arith}
use Rattle.std.specs.List.{range_with_len}
use Rattle.std.proofs.lemmas.Grind.{flat_map-append}
use Rattle.std.proofs.lemmas.List.{append-nil}
use Rattle.std.proofs.lemmas.List.Folds.{flat_map-map}
use Rattle.std.proofs.lemmas.List.FromFn.{map-range_with_len_more}

pub more : {A : Type 0} (f : ℕ → A) (old now new : List A) (k : ℕ) → now ≡ old ++ map f (range_with_len 1 k) → new ≡ now ++ f (k + 1) ∷ [] → new ≡ old ++ map f (range_with_len 1 (k + 1))
more f old now new k h e =
    e ∙ ap (λ l. l ++ f (k + 1) ∷ []) h ∙ append_assoc old (map f (range_with_len 1 k)) (f (k + 1) ∷ [])
    ∙ ap (λ l. old ++ l) (sym (map-range_with_len_more f 1 k (k + 1) (omega arith)))

-- the same of lists
flat_more : {A : Type 0} (f : ℕ → List A) (a n j : ℕ) → a + n ≡ j → flat_map f (range_with_len a (n + 1)) ≡ flat_map f (range_with_len a n) ++ f j
flat_more f a n j e =
    sym (flat_map-map f (λ x. x) (range_with_len a (n + 1))) ∙ ap (flat_map f) (map-range_with_len_more (λ x. x) a n j e)
    ∙ flat_map-append f (map (λ x. x) (range_with_len a n)) (j ∷ []) ∙ ap₂ (λ l m. l ++ m) (flat_map-map f (λ x. x) (range_with_len a n)) (append-nil (f j))

pub more_lists : {A : Type 0} (f : ℕ → List A) (a : ℕ) (old now new : List A) (k j : ℕ) → a + k ≡ j → now ≡ old ++ flat_map f (range_with_len a k) → new ≡ now ++ f j → new ≡ old ++ flat_map f (range_with_len a (k + 1))
more_lists f a old now new k j e h g =
    g ∙ ap (λ l. l ++ f j) h ∙ append_assoc old (flat_map f (range_with_len a k)) (f j) ∙ ap (λ l. old ++ l) (sym (flat_more f a k j e))

-- five parts, one after another
pub joined : {A : Type 0} (a b c d : List A) (x y : A) (k l m n o p : List A) → k ≡ [] → l ≡ k ++ a → m ≡ l ++ b → n ≡ m ++ c → o ≡ n ++ d → p ≡ o ++ x ∷ [] → x ≡ y → p ≡ a ++ (b ++ (c ++ (d ++ y ∷ [])))
joined a b c d x y k l m n o p ek el em en eo ep e =
    ep ∙ ap (λ h. h ++ x ∷ []) eo ∙ append_assoc n d (x ∷ [])
    ∙ ap (λ h. h ++ (d ++ x ∷ [])) en ∙ append_assoc m c (d ++ x ∷ [])
    ∙ ap (λ h. h ++ (c ++ (d ++ x ∷ []))) em ∙ append_assoc l b (c ++ (d ++ x ∷ []))
    ∙ ap (λ h. h ++ (b ++ (c ++ (d ++ x ∷ [])))) el ∙ append_assoc k a (b ++ (c ++ (d ++ x ∷ [])))
    ∙ ap (λ h. h ++ (a ++ (b ++ (c ++ (d ++ x ∷ []))))) ek
    ∙ ap (λ z. a ++ (b ++ (c ++ (d ++ z ∷ [])))) e
