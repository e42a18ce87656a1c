-- Plans for the parts of a node, one after another.
use Rattle.std.proofs.Common.{◌≡◌, ℕ, zero, suc, ◌<◌, ◌+◌, List, [], ◌∷◌, ◌++◌, Bool, ◌||◌, length, map, take, drop, refl, ap, sym, ◌∙◌, add-one, arith}
use Rattle.std.proofs.lemmas.List.{length-map, map-append}
use Rattle.fx_core.specs.declared.functions.Fun.{Fun}
use Rattle.fx_core.specs.Rows.{row_of}
use Rattle.fx_typing.specs.Parts.{Grant}
use Rattle.fx_typing.specs.Plans.{is_inside, opens_rows, pick, plan_at, plan_by_row, plan_either}
use Rattle.fx_core.specs.declared.names.Names.{Names}
use Rattle.fx_core.specs.Tree.{Head}
use Rattle.fx_resolve.specs.declared.parts.Part.{Part}
use Rattle.fx_resolve.specs.PartView.{judged_part}

-- behind the first part the function is known
pub either_behind : (b : Bool) (f g : Fun) (n : ℕ) (qs : List Part) → (qs ≡ [] → ⊥) →
    plan_by_row b (row_of (pick f g (map judged_part qs))) n (length qs) ≡ plan_either b f g n (map judged_part qs)
either_behind b f g n [] h = absurd (h refl)
either_behind b f g n (q ∷ qs) h = ap (plan_by_row b (row_of (pick f g (map judged_part (q ∷ qs)))) n) (sym (length-map (q ∷ qs) judged_part))

-- the item at a place, and the items behind it
split_at : {A : Type 0} (xs : List A) (i : ℕ) → i < length xs → (x : A) × (drop i xs ≡ x ∷ drop (suc i) xs) × (take (suc i) xs ≡ take i xs ++ x ∷ [])
split_at [] i h = absurd (omega arith)
split_at (x ∷ xs) zero h = (x, refl, refl)
split_at (x ∷ xs) (suc i) h = let s = split_at xs i (omega arith) in (s.0, s.1, ap (λ ys. x ∷ ys) s.2)

-- one part more
pub opens_step : (m : Names) (g : Grant) (h : Head) (n : ℕ) (qs : List Part) (i : ℕ) → i < length qs →
    opens_rows m g h n (map judged_part (take i qs)) (map judged_part (drop i qs))
    ≡ is_inside (plan_at m g h n (map judged_part (take i qs))).standing || opens_rows m g h n (map judged_part (take (i + 1) qs)) (map judged_part (drop (i + 1) qs))
opens_step m g h n qs i l =
    let s = split_at qs i l in
    ap (λ ds. opens_rows m g h n (map judged_part (take i qs)) (map judged_part ds)) s.1
    ∙ ap (λ ds. is_inside (plan_at m g h n (map judged_part (take i qs))).standing || opens_rows m g h n ds (map judged_part (drop (suc i) qs))) (sym (ap (map judged_part) s.2 ∙ map-append judged_part (take i qs) (s.0 ∷ [])))
    ∙ ap (λ k. is_inside (plan_at m g h n (map judged_part (take i qs))).standing || opens_rows m g h n (map judged_part (take k qs)) (map judged_part (drop k qs))) (sym (add-one i))
