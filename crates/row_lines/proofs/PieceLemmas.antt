-- Pieces, and what stands one behind the other.
use Rattle.std.proofs.Common.{◌≡◌, ◌∙◌, ◌+◌, ◌<◌, ◌≤◌, ℕ, zero, suc, List, [], ◌∷◌, ◌++◌, flat_map, length, ap, arith, refl, sym}
use Rattle.std.proofs.lemmas.List.{drop_at, length-append, take_at}
use Rattle.std.proofs.lemmas.Nat.{from_be_bytes-to_be_bytes_4}
use Rattle.std.specs.List.{AllByRecursion}
use Rattle.row_lines.specs.Bodies.{length_prefixed}
use Rattle.row_lines.specs.FromBytes.{behind_piece, first_length, first_piece, items_in}
use Rattle.row_lines.specs.Laws.{IsShort}

pub first_length-piece : (bytes rest : List ℕ) → IsShort bytes → first_length (length_prefixed bytes ++ rest) ≡ length bytes
first_length-piece bytes rest h = from_be_bytes-to_be_bytes_4 (length bytes) h

pub first_piece-piece : (bytes rest : List ℕ) → IsShort bytes → first_piece (length_prefixed bytes ++ rest) ≡ bytes
first_piece-piece bytes rest h = take_at bytes rest (first_length (length_prefixed bytes ++ rest)) (sym (first_length-piece bytes rest h))

pub behind_piece-piece : (bytes rest : List ℕ) → IsShort bytes → behind_piece (length_prefixed bytes ++ rest) ≡ rest
behind_piece-piece bytes rest h = drop_at bytes rest (first_length (length_prefixed bytes ++ rest)) (sym (first_length-piece bytes rest h))

-- a list of things each of which can be read where it comes first can be read as a whole
module _ {A : Type 0} (first : List ℕ → A) (behind : List ℕ → List ℕ) where
  items_in-first : (bytes : List ℕ) (most : ℕ) → 0 < length bytes → items_in first behind (suc most) bytes ≡ first bytes ∷ items_in first behind most (behind bytes)
  items_in-first [] most h = absurd (omega (arith, h))
  items_in-first (b ∷ bytes) most h = refl

  pub items_tell : (bytes_of : A → List ℕ) (IsTold : A → Type 0)
      → ((x : A) (rest : List ℕ) → IsTold x → first (bytes_of x ++ rest) ≡ x)
      → ((x : A) (rest : List ℕ) → IsTold x → behind (bytes_of x ++ rest) ≡ rest)
      → ((x : A) → 0 < length (bytes_of x))
      → (xs : List A) (most : ℕ) → AllByRecursion IsTold xs → length (flat_map bytes_of xs) ≤ most → items_in first behind most (flat_map bytes_of xs) ≡ xs
  items_tell bytes_of IsTold reads goes some [] zero t h = refl
  items_tell bytes_of IsTold reads goes some [] (suc most) t h = refl
  items_tell bytes_of IsTold reads goes some (x ∷ xs) zero t h =
      let l = length-append (bytes_of x) (flat_map bytes_of xs) in
      let p = some x in
      absurd (omega (arith, l, p, h))
  items_tell bytes_of IsTold reads goes some (x ∷ xs) (suc most) t h =
      let rest = flat_map bytes_of xs in
      let l : length (bytes_of x ++ rest) ≡ length (bytes_of x) + length rest = length-append (bytes_of x) rest in
      let p : 0 < length (bytes_of x) = some x in
      items_in-first (bytes_of x ++ rest) most (omega (arith, l, p))
      ∙ ap (λ y. y ∷ items_in first behind most (behind (bytes_of x ++ rest))) (reads x rest t.0)
      ∙ ap (λ bytes. x ∷ items_in first behind most bytes) (goes x rest t.0)
      ∙ ap (λ ys. x ∷ ys) (items_tell bytes_of IsTold reads goes some xs most t.1 (omega (arith, l, p, h)))
