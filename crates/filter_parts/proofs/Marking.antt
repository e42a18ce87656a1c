-- Parts that are marked, as lists.
use Rattle.std.proofs.Common.{◌≡◌, Bool, true, false, List, [], ◌∷◌, ◌++◌, ◌⊎◌, inl, inr, length, refl, sym, ap, ◌∙◌, arith}
use Rattle.std.proofs.lemmas.List.{append-nil}
use Rattle.filter_parts.specs.Splits.{marked, unmarked}
use Rattle.fx_core.specs.Term.{Term, all, cons}

abbrev marked_list : List Bool → List Term → List Term
marked_list (true ∷ bs) (c ∷ cs) = c ∷ marked_list bs cs
marked_list (false ∷ bs) (c ∷ cs) = marked_list bs cs
marked_list bs cs = []

abbrev unmarked_list : List Bool → List Term → List Term
unmarked_list (true ∷ bs) (c ∷ cs) = unmarked_list bs cs
unmarked_list (false ∷ bs) (c ∷ cs) = c ∷ unmarked_list bs cs
unmarked_list bs cs = []

all_marked : (bs : List Bool) (cs : List Term) → all (marked_list bs cs) ≡ marked bs (all cs)
all_marked [] cs = refl
all_marked (true ∷ bs) [] = refl
all_marked (false ∷ bs) [] = refl
all_marked (true ∷ bs) (c ∷ cs) = ap (cons c) (all_marked bs cs)
all_marked (false ∷ bs) (c ∷ cs) = all_marked bs cs

all_unmarked : (bs : List Bool) (cs : List Term) → all (unmarked_list bs cs) ≡ unmarked bs (all cs)
all_unmarked [] cs = refl
all_unmarked (true ∷ bs) [] = refl
all_unmarked (false ∷ bs) [] = refl
all_unmarked (true ∷ bs) (c ∷ cs) = all_unmarked bs cs
all_unmarked (false ∷ bs) (c ∷ cs) = ap (cons c) (all_unmarked bs cs)

-- what has been parted, before what is left to part, is the whole
pub record ArePartedSo (chosen others : List Term) (bs : List Bool) (cs : List Term) (marks : List Bool) (parts : List Term) : Type 0 where
  pub chosen_so : chosen ++ marked_list bs cs ≡ marked_list marks parts
  pub others_so : others ++ unmarked_list bs cs ≡ unmarked_list marks parts

-- where either is at its end nothing is left
none_marked : (bs : List Bool) (cs : List Term) → (length cs ≡ 0) ⊎ (length bs ≡ 0) → marked_list bs cs ≡ []
none_marked [] cs e = refl
none_marked (true ∷ bs) [] e = refl
none_marked (false ∷ bs) [] e = refl
none_marked (b ∷ bs) (c ∷ cs) e = elim e [ inl h ↦ absurd (omega (arith, h)) | inr h ↦ absurd (omega (arith, h)) ]

none_unmarked : (bs : List Bool) (cs : List Term) → (length cs ≡ 0) ⊎ (length bs ≡ 0) → unmarked_list bs cs ≡ []
none_unmarked [] cs e = refl
none_unmarked (true ∷ bs) [] e = refl
none_unmarked (false ∷ bs) [] e = refl
none_unmarked (b ∷ bs) (c ∷ cs) e = elim e [ inl h ↦ absurd (omega (arith, h)) | inr h ↦ absurd (omega (arith, h)) ]

module _ (chosen others : List Term) (bs : List Bool) (cs : List Term) (marks : List Bool) (parts : List Term) (e : (length cs ≡ 0) ⊎ (length bs ≡ 0)) (w : ArePartedSo chosen others bs cs marks parts) where
  pub chosen_are : all chosen ≡ marked marks (all parts)
  chosen_are = ap all (sym (append-nil chosen) ∙ ap (λ xs. chosen ++ xs) (sym (none_marked bs cs e)) ∙ w.chosen_so) ∙ all_marked marks parts

  pub others_are : all others ≡ unmarked marks (all parts)
  others_are = ap all (sym (append-nil others) ∙ ap (λ xs. others ++ xs) (sym (none_unmarked bs cs e)) ∙ w.others_so) ∙ all_unmarked marks parts
