-- The lists that doors in memory keep.
use Rattle.std.proofs.Common.{◌≡◌, ℕ, zero, suc, ◌+◌, ◌<◌, true, List, [], ◌∷◌, ◌++◌, length, map, get_or, slice_set, ap, sym, ◌∙◌, arith}
use Rattle.std.specs.List.{remove}
use Rattle.app_wire.specs.Doorway.{NextComes, Doorway, Talk, fresh_talk, with_last}

-- the last talk, changed in its place
pub set_last : (f : Talk → Talk) (ts : List Talk) (t d : Talk) (i : ℕ) → i + 1 ≡ length ts → t ≡ f (get_or ts i d) → slice_set ts i t ≡ with_last f ts
set_last f [] t d i e h = absurd (omega (arith, e))
set_last f (x ∷ []) t d zero e h = ap (λ z. z ∷ []) h
set_last f (x ∷ []) t d (suc i) e h = absurd (omega (arith, e))
set_last f (x ∷ y ∷ ts) t d zero e h = absurd (omega (arith, e))
set_last f (x ∷ y ∷ ts) t d (suc i) e h = ap (λ z. x ∷ z) (set_last f (y ∷ ts) t d i (omega (arith, e)) h)

-- the first list, and the others
pub first_taken : {V : Type 0} (f : V → List ℕ) (xs rest : List V) (first : V) → 0 < length xs → first ≡ get_or xs 0 first → rest ≡ remove xs 0 → map f xs ≡ f first ∷ map f rest
first_taken f [] rest first e h k = absurd (omega (arith, e))
first_taken f (x ∷ xs) rest first e h k = ap (λ z. f z ∷ map f xs) (sym h) ∙ ap (λ z. f first ∷ map f z) (sym k)

pub comes : (old : Doorway) (first : List ℕ) (rest : List (List ℕ)) (begun : List Talk) (a : Doorway) → old ≡ a → old.coming ≡ first ∷ rest → begun ≡ old.begun ++ fresh_talk ∷ []
    → NextComes true a (record { port = old.port; coming = rest; unread = first; begun = begun })
comes old first rest begun a e h k = (
  first,
  rest,
  ap (λ (d : Doorway). d.coming) (sym e) ∙ h,
  ap (λ (ts : List Talk). record old { coming = rest; unread = first; begun = ts }) k
      ∙ ap (λ (d : Doorway). record d { coming = rest; unread = first; begun = d.begun ++ fresh_talk ∷ [] }) e,
)
