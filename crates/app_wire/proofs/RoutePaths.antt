-- What the router finds: a row whose pattern the path matches, or none.
use Rattle.std.proofs.Common.{◌≡◌, ℕ, zero, suc, ◌<◌, ◌≤◌, List, [], ◌∷◌, ◌++◌, length, get_or, Option, Some, None, Bool, true, false, refl, ap, sym, ◌∙◌, subst, arith, ◌⊎◌, inl, inr, append-nil, lit<}
use Rattle.std.proofs.lemmas.Bool.Decides.{nat_tests}
use Rattle.std.proofs.lemmas.List.{length-append}
use Rattle.matchit.specs.Rows.{RowsOf}
use Rattle.matchit.specs.Seek.{has_slash, or_else, seek, step, with_suffix}
use Rattle.app_wire.proofs.RouteSteps.{Has, all_good, any_goes_on, by_param, found_end, found_off, found_on, found_zero, goes_on, good_step, good_suffix, opens, open_of, open_step, own_from, own_none, seek_byte, seek_end, split, step_from, step_to, suffix_from, suffix_to}

abbrev pub AreBytes : List ℕ → Type 0
AreBytes [] = Unit {0}
AreBytes (b ∷ bs) = (b < 256) × AreBytes bs

pub are_bytes : (bytes : List ℕ) → ((i : ℕ) → get_or bytes i 0 < 256) → AreBytes bytes
are_bytes [] h = tt
are_bytes (b ∷ bs) h = (h 0, are_bytes bs (λ i. h (suc i)))

-- what a parameter takes: at least one byte, and no slash
pub record IsPlain (part : List ℕ) : Type 0 where
  pub some : 1 ≤ length part
  pub whole : has_slash part ≡ false

-- the path matches the pattern
abbrev pub Matches : List ℕ → List ℕ → Type 0
Matches [] path = path ≡ []
Matches (x ∷ t) path =
    ((rest : List ℕ) × (x < 256) × (path ≡ x ∷ rest) × Matches t rest)
    ⊎ ((part : List ℕ) × (rest : List ℕ) × (x ≡ 256) × IsPlain part × (path ≡ part ++ rest) × Matches t rest)

bytes_behind : (a b : List ℕ) → AreBytes (a ++ b) → AreBytes b
bytes_behind [] b h = h
bytes_behind (x ∷ a) b h = bytes_behind a b h.1

shorter : (part rest : List ℕ) (n : ℕ) → 1 ≤ length part → length (part ++ rest) ≤ suc n → length rest ≤ n
shorter part rest n some h = omega (arith, length-append part rest)

module _ {K : Type 0} where
  first_of_two : (a b : Option K) (k : K) → or_else a b ≡ Some k → (a ≡ Some k) ⊎ (b ≡ Some k)
  first_of_two None b k e = inr e
  first_of_two (Some x) b k e = inl e

  none_of_two : (a b : Option K) → or_else a b ≡ None → (a ≡ None) × (b ≡ None)
  none_of_two None b e = (refl, e)
  none_of_two (Some x) b e = cc

  -- a row that was found has a pattern that the path matches
  abbrev pub Found : RowsOf K → List ℕ → K → Type 0
  Found rs path k = (t : List ℕ) × Has rs t k × Matches t path

  abbrev pub FindsWithin : ℕ → K → Type 0
  FindsWithin n k = (rs : RowsOf K) (path : List ℕ) → length path ≤ n → all_good rs ≡ true → AreBytes path → seek 0 rs path ≡ Some k → Found rs path k

  module _ (n : ℕ) (k : K) (again : FindsWithin n k) (rs : RowsOf K) (b : ℕ) (p : List ℕ) (fits : length (b ∷ p) ≤ suc n) (g : all_good rs ≡ true) (bytes : AreBytes (b ∷ p)) where
    found_behind : (name rest : List ℕ) → b ∷ p ≡ name ++ 47 ∷ rest → has_slash name ≡ false → 1 ≤ length name
        → seek 0 (with_suffix (47 ∷ []) (step 256 rs)) (47 ∷ rest) ≡ Some k → Found rs (b ∷ p) k
    found_behind name rest same plain some f =
        let q = with_suffix (47 ∷ []) (step 256 rs) in
        let r = again q (47 ∷ rest) (shorter name (47 ∷ rest) n some (subst (λ z. length z ≤ suc n) same fits))
        (good_suffix (47 ∷ []) (step 256 rs) (good_step 256 rs g)) (bytes_behind name (47 ∷ rest) (subst AreBytes same bytes)) f in (
          256 ∷ r.0,
          step_from 256 rs r.0 k (suffix_from (47 ∷ []) (step 256 rs) r.0 k r.1),
          inr (name, 47 ∷ rest, refl, record { some = some; whole = plain }, same, r.2),
        )

    found_slash : (name rest : List ℕ) → b ∷ p ≡ name ++ 47 ∷ rest → has_slash name ≡ false → (v : Bool) → any_goes_on (step 256 rs) ≡ v → by_param rs b p ≡ Some k
        → Found rs (b ∷ p) k
    found_slash [] rest same plain v q f =
        let head : b ≡ 47 = cc in
        let tail : p ≡ rest = cc in
        let no : None ≡ Some k = sym (found_zero rs rest g) ∙ sym (ap (λ z. by_param rs z rest) head) ∙ sym (ap (λ z. by_param rs b z) tail) ∙ f in
        cc
    found_slash (x ∷ xs) rest same plain true q f =
        let head : b ≡ x = cc in
        let tail : p ≡ xs ++ 47 ∷ rest = cc in
        found_behind (x ∷ xs) rest same plain (omega arith)
        (sym (found_on rs x xs rest g q plain) ∙ sym (ap (λ z. by_param rs z (xs ++ 47 ∷ rest)) head) ∙ sym (ap (λ z. by_param rs b z) tail) ∙ f)
    found_slash (x ∷ xs) rest same plain false q f =
        let head : b ≡ x = cc in
        let tail : p ≡ xs ++ 47 ∷ rest = cc in
        let no : None ≡ Some k = sym (found_off rs x xs rest q) ∙ sym (ap (λ z. by_param rs z (xs ++ 47 ∷ rest)) head) ∙ sym (ap (λ z. by_param rs b z) tail) ∙ f in
        cc

    found_param : (has_slash (b ∷ p) ≡ false) ⊎ ((name : List ℕ) × (rest : List ℕ) × (b ∷ p ≡ name ++ 47 ∷ rest) × (has_slash name ≡ false)) → by_param rs b p ≡ Some k
        → Found rs (b ∷ p) k
    found_param (inl plain) f = (
      256 ∷ [],
      step_from 256 rs [] k (own_from (step 256 rs) k (sym (found_end rs b p g plain) ∙ f)),
      inr (b ∷ p, [], refl, record { some = omega arith; whole = plain }, sym (append-nil (b ∷ p)), refl),
    )
    found_param (inr s) f = found_slash s.0 s.1 s.2 s.3 (any_goes_on (step 256 rs)) refl f

    found_at : (seek 0 (step b rs) p ≡ Some k) ⊎ (by_param rs b p ≡ Some k) → Found rs (b ∷ p) k
    found_at (inl f) =
        let r = again (step b rs) p (omega (arith, fits)) (good_step b rs g) bytes.1 f in
        (b ∷ r.0, step_from b rs r.0 k r.1, inl (p, bytes.0, refl, r.2))
    found_at (inr f) = found_param (split (b ∷ p)) f

  pub found_matches : (n : ℕ) (k : K) → FindsWithin n k
  found_matches n k rs [] fits g bytes e = ([], own_from rs k (sym (seek_end rs) ∙ e), refl)
  found_matches zero k rs (b ∷ p) fits g bytes e = absurd (omega (arith, fits))
  found_matches (suc n) k rs (b ∷ p) fits g bytes e =
      found_at n k (λ q u. found_matches n k q u) rs b p fits g bytes (first_of_two (seek 0 (step b rs) p) (by_param rs b p) k (sym (seek_byte rs b p g) ∙ e))

  -- where none was found there is no such row
  abbrev pub MissesWithin : ℕ → K → Type 0
  MissesWithin n k =
      (rs : RowsOf K) (path t : List ℕ) → length path ≤ n → all_good rs ≡ true → AreBytes path → seek 0 rs path ≡ None → Has rs t k → Matches t path → ⊥

  module _ (n : ℕ) (k : K) (again : MissesWithin n k) (rs : RowsOf K) (b : ℕ) (p : List ℕ) (fits : length (b ∷ p) ≤ suc n) (g : all_good rs ≡ true) (bytes : AreBytes (b ∷ p))
      (no_text : seek 0 (step b rs) p ≡ None) (no_param : by_param rs b p ≡ None) where
    missed_behind : (u part rest : List ℕ) → IsPlain part → b ∷ p ≡ part ++ rest → Has (step 256 rs) u k → opens u ≡ true → Matches u rest → ⊥
    missed_behind [] part rest plain same has o ends =
        let whole : b ∷ p ≡ part = same ∙ ap (λ z. part ++ z) ends ∙ append-nil part in
        own_none (step 256 rs) k (sym (found_end rs b p g (ap has_slash whole ∙ plain.whole)) ∙ no_param) has
    missed_behind (y ∷ u) part rest plain same has o (inr m) = let no = m.2 in let q = o in absurd (grind (arith, nat_tests))
    missed_behind (y ∷ u) [] rest plain same has o (inl m) = omega (arith, plain.some)
    missed_behind (y ∷ u) (z ∷ zs) rest plain same has o (inl m) =
        let q = o in
        let slash : y ≡ 47 = grind (arith, nat_tests) in
        let rest_is : rest ≡ 47 ∷ m.0 = m.2 ∙ ap (λ w. w ∷ m.0) slash in
        let whole : b ∷ p ≡ (z ∷ zs) ++ 47 ∷ m.0 = same ∙ ap (λ w. (z ∷ zs) ++ w) rest_is in
        let head : b ≡ z = cc in
        let tail : p ≡ zs ++ 47 ∷ m.0 = cc in
        let q = with_suffix (47 ∷ []) (step 256 rs) in
        let none : seek 0 q (47 ∷ m.0) ≡ None =
        sym (found_on rs z zs m.0 g (goes_on (step 256 rs) y u k has) plain.whole) ∙ sym (ap (λ w. by_param rs w (zs ++ 47 ∷ m.0)) head) ∙ sym (ap (λ w. by_param rs b w) tail) ∙ no_param in
        again q (47 ∷ m.0) (47 ∷ u) (shorter (z ∷ zs) (47 ∷ m.0) n plain.some (subst (λ w. length w ≤ suc n) whole fits))
        (good_suffix (47 ∷ []) (step 256 rs) (good_step 256 rs g)) (bytes_behind (z ∷ zs) (47 ∷ m.0) (subst AreBytes whole bytes)) none
        (suffix_to (47 ∷ []) (step 256 rs) (47 ∷ u) k refl (subst (λ w. Has (step 256 rs) (w ∷ u) k) slash has)) (inl (m.0, lit< tt, refl, m.3))

    missed_at : (x : ℕ) (t : List ℕ) → Has rs (x ∷ t) k → Matches (x ∷ t) (b ∷ p) → ⊥
    missed_at x t h (inl m) =
        let same = m.2 in
        let head : b ≡ x = cc in
        let tail : p ≡ m.0 = cc in
        again (step b rs) p t (omega (arith, fits)) (good_step b rs g) bytes.1 no_text
        (step_to b rs t k (subst (λ z. Has rs (z ∷ t) k) (sym head) h)) (subst (Matches t) (sym tail) m.3)
    missed_at x t h (inr m) =
        let has : Has (step 256 rs) t k = step_to 256 rs t k (subst (λ z. Has rs (z ∷ t) k) m.2 h) in
        missed_behind t m.0 m.1 m.3 m.4 has (open_of (step 256 rs) t k (open_step rs g) has) m.5

  pub none_matches : (n : ℕ) (k : K) → MissesWithin n k
  none_matches n k rs [] [] fits g bytes e h m = own_none rs k (sym (seek_end rs) ∙ e) h
  none_matches n k rs [] (x ∷ t) fits g bytes e h (inl m) = let no = m.2 in cc
  none_matches n k rs [] (x ∷ t) fits g bytes e h (inr m) = omega (arith, m.3.some, ap length m.4, length-append m.0 m.1)
  none_matches n k rs (b ∷ p) [] fits g bytes e h m = cc
  none_matches zero k rs (b ∷ p) (x ∷ t) fits g bytes e h m = omega (arith, fits)
  none_matches (suc n) k rs (b ∷ p) (x ∷ t) fits g bytes e h m =
      let two = none_of_two (seek 0 (step b rs) p) (by_param rs b p) (sym (seek_byte rs b p g) ∙ e) in
      missed_at n k (λ q u s. none_matches n k q u s) rs b p fits g bytes two.0 two.1 x t h m
