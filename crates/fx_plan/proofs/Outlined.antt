-- The parts of a pattern, one after another.
use Rattle.std.proofs.Common.{◌≡◌, ℕ, zero, suc, ◌+◌, ◌<◌, List, [], ◌∷◌, ◌++◌, length, get_or, take, refl, sym, ap, ◌∙◌, subst, arith}
use Rattle.std.proofs.lemmas.List.{take_more}
use Rattle.fx_types.specs.Values.{Data}
use Rattle.fx_plan.specs.Outlines.{AreWithin, IsWithin, Outline, all_filled, filled, list_size, outline_list, outline_size}
use Rattle.row_queries.specs.Conditions.{Condition, also, condition_list}

pub part_within : (n : ℕ) (os : List Outline) (i : ℕ) (o : Outline) → i < length os → o ≡ get_or os i o → AreWithin n (outline_list os) → IsWithin n o
part_within n [] i o l e h = absurd (omega (arith, l))
part_within n (p ∷ os) zero o l e h = subst (IsWithin n) (sym e) h.0
part_within n (p ∷ os) (suc i) o l e h = part_within n os i o (omega (arith, l)) e h.1

pub part_falls : (os : List Outline) (i : ℕ) (o : Outline) → i < length os → o ≡ get_or os i o → outline_size o < list_size (outline_list os)
part_falls [] i o l e = absurd (omega (arith, l))
part_falls (p ∷ os) zero o l e = let P : Outline → Type 0 = λ x. outline_size x < list_size (outline_list (p ∷ os)) in subst P (sym e) (omega arith)
part_falls (p ∷ os) (suc i) o l e = let h = part_falls os i o (omega (arith, l)) e in omega (arith, h)

more : (ds : List Data) (cs : List Condition) (os : List Outline) (o : Outline) → condition_list cs ≡ all_filled ds (outline_list os) →
    condition_list (cs ++ filled ds o ∷ []) ≡ all_filled ds (outline_list (os ++ o ∷ []))
more ds [] [] o e = refl
more ds [] (p ∷ os) o e = absurd cc
more ds (c ∷ cs) [] o e = absurd cc
more ds (c ∷ cs) (p ∷ os) o e =
    let first : c ≡ filled ds p = cc in
    let rest : condition_list cs ≡ all_filled ds (outline_list os) = cc in
    ap (λ x. also x (condition_list (cs ++ filled ds o ∷ []))) first ∙ ap (also (filled ds p)) (more ds cs os o rest)

pub filled_more : (ds : List Data) (os : List Outline) (i : ℕ) (o : Outline) (old now : List Condition) (c : Condition) → i < length os → o ≡ get_or os i o →
    condition_list old ≡ all_filled ds (outline_list (take i os)) → c ≡ filled ds o → now ≡ old ++ c ∷ [] → condition_list now ≡ all_filled ds (outline_list (take (i + 1) os))
filled_more ds os i o old now c l e h f g =
    let longer : take (i + 1) os ≡ take i os ++ o ∷ [] = take_more os i o l ∙ ap (λ x. take i os ++ x ∷ []) (sym e) in
    ap condition_list (g ∙ ap (λ x. old ++ x ∷ []) f) ∙ more ds old (take i os) o h ∙ ap (λ x. all_filled ds (outline_list x)) (sym longer)
