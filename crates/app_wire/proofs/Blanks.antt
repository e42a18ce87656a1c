-- Blank lines, and the fronts that end with them.
use Rattle.std.proofs.Common.{◌≡◌, ℕ, ◌+◌, ◌-◌, ◌<◌, ◌≤◌, inl, inr, Bool, true, false, List, [], ◌∷◌, ◌++◌, length, take, codes, refl, ap, sym, ◌∙◌, subst, arith, nat_eq, min, below_more}
use Rattle.std.specs.List.{ends_with}
use Rattle.std.proofs.lemmas.Bool.Decides.{Decides-eqb}
use Rattle.std.proofs.lemmas.Slice.Eq.{ends_is}
use Rattle.std.proofs.lemmas.List.{take-append-le, length-append}
use Rattle.app_wire.specs.Framing.{EndsBlank, HasNoBlank, IsHeadEnd, IsStillOpen}

-- what a test of the end says
pub end_is : (p s : List ℕ) (r : Bool) → r ≡ ends_with nat_eq s p → (r ≡ true → (before : List ℕ) × (s ≡ before ++ p)) × ((before : List ℕ) → s ≡ before ++ p → r ≡ true)
end_is p s r e = let h = ends_is Decides-eqb s p r e in ((λ t. (take (length s - length p) s, h.0 t)), h.1)

-- where the first of the two tests fails, the second decides
pub second_end : (bytes : List ℕ) (a b : Bool) → a ≡ ends_with nat_eq bytes (codes "\n\n") → b ≡ ends_with nat_eq bytes (codes "\n\r\n")
    → a ≡ false → EndsBlank bytes → b ≡ true
second_end bytes a b first second fails (inl h) = let yes : a ≡ true = (end_is (codes "\n\n") bytes a first).1 h.0 h.1 in cc
second_end bytes a b first second fails (inr h) = (end_is (codes "\n\r\n") bytes b second).1 h.0 h.1

not_empty : (bytes : List ℕ) → bytes ≡ [] → EndsBlank bytes → ⊥
not_empty bytes e (inl h) = omega (arith, ap length (sym e ∙ h.1), length-append h.0 (codes "\n\n"))
not_empty bytes e (inr h) = omega (arith, ap length (sym e ∙ h.1), length-append h.0 (codes "\n\r\n"))

take_none : (bytes : List ℕ) (k : ℕ) → k ≤ 0 → take k bytes ≡ []
take_none bytes k le = let same : k ≡ 0 = omega arith in rw same refl

-- no blank line ends within no bytes
pub none_within_none : (bytes : List ℕ) → HasNoBlank bytes 0
none_within_none bytes k le = not_empty (take k bytes) (take_none bytes k le)

-- a front has a byte
pub front_some : (bytes : List ℕ) (n : ℕ) → IsHeadEnd bytes n → bytes ≡ [] → ⊥
front_some bytes n f e = not_empty (take n bytes) (take_none bytes n (omega (arith, f.within, ap length e))) f.blank

pub front_byte : (bytes : List ℕ) (n : ℕ) → IsHeadEnd bytes n → 0 < length bytes
front_byte [] n f = absurd (front_some [] n f refl)
front_byte (b ∷ bytes) n f = omega arith

-- one byte more
pub one_more : (bytes : List ℕ) (n : ℕ) → HasNoBlank bytes n → (EndsBlank (take (n + 1) bytes) → ⊥) → HasNoBlank bytes (n + 1)
one_more bytes n none here k le =
    let earlier : (j : ℕ) → j < n + 1 → EndsBlank (take j bytes) → ⊥ = λ j lt. none j (omega arith) in
    below_more (λ j. EndsBlank (take j bytes) → ⊥) (n + 1) earlier here k (omega arith)

-- without a blank line in what came, and with room for more
pub open_short : (bytes : List ℕ) → length bytes < 8192 → HasNoBlank bytes (min (length bytes) 8192) → IsStillOpen bytes
open_short [] short none = inl refl
open_short (b ∷ bytes) short none = inr (refl, inl (record { some = omega arith; short = short; none = λ k le. none k (omega arith) }))

-- what more bytes leave
pub none_more : (bytes more : List ℕ) (n : ℕ) → n ≤ length bytes → HasNoBlank bytes n → HasNoBlank (bytes ++ more) n
none_more bytes more n le none k below =
    let h : k ≤ length bytes = omega arith in rw (take-append-le k bytes more h) (none k below)

pub take_front : {bytes : List ℕ} (more : List ℕ) {n : ℕ} → IsHeadEnd bytes n → take n (bytes ++ more) ≡ take n bytes
take_front {bytes} more {n} f = let h : n ≤ length bytes = f.within in take-append-le n bytes more h

pub front_more : {bytes : List ℕ} (more : List ℕ) {n : ℕ} → IsHeadEnd bytes n → IsHeadEnd (bytes ++ more) n
front_more {bytes} more {n} f = record {
  within = omega (arith, f.within, length-append bytes more);
  near = f.near;
  blank = rw (take_front more f) f.blank;
  first = λ k below. let h : k ≤ length bytes = omega (arith, f.within, below) in rw (take-append-le k bytes more h) (f.first k below);
}

-- what fewer bytes leave
pub front_less : (bytes more : List ℕ) (n : ℕ) → n ≤ length bytes → IsHeadEnd (bytes ++ more) n → IsHeadEnd bytes n
front_less bytes more n le f = record {
  within = le;
  near = f.near;
  blank = subst EndsBlank (take-append-le n bytes more le) f.blank;
  first = λ k below blank.
      let h : k ≤ length bytes = omega arith in
      f.first k below (subst EndsBlank (sym (take-append-le k bytes more h)) blank);
}
