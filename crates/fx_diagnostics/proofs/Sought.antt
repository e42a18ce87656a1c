-- Parts one after another, as loops go over them.
use Rattle.std.proofs.Common.{◌≡◌, ℕ, suc, ◌+◌, add-one, ◌<◌, List, ◌∷◌, length, drop, drop-cons, get_or, ap, sym, ◌∙◌}

-- the item at a place, and the ones behind it
pub drop_at : {A : Type 0} (xs : List A) (i : ℕ) (x : A) → i < length xs → x ≡ get_or xs i x → drop i xs ≡ x ∷ drop (i + 1) xs
drop_at xs i x h e = rw (add-one i) (drop-cons xs i x h ∙ ap (λ y. y ∷ drop (suc i) xs) (sym e))
