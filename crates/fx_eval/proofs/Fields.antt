-- Fields of records.
use Rattle.std.proofs.Common.{◌≡◌, ℕ, List, [], ◌∷◌, ◌++◌, refl, ap, sym, subst, ◌∙◌}
use Rattle.fx_types.specs.Rising.{AreNamesRising, IsBelow, IsNameBelowAll}
use Rattle.fx_types.specs.Values.{Data, field, field_list, rec}
use Rattle.fx_eval.specs.Parts.{AreFilled}
use Rattle.fx_semantics.specs.Around.{Around, AreValues}
use Rattle.fx_semantics.specs.Fresh.{IsValue, OfAll, fields_by, meanings}
use Rattle.fx_core.specs.Term.{Term, term_field_names, field_terms}
use Rattle.fx_typing.specs.WellTyped.{IsBelowNames, NamesRise}

-- ---- records that are made

abbrev Field : Type 0
Field = List ℕ × Data

abbrev values_of : List Field → List Data
values_of [] = []
values_of (x ∷ xs) = x.1 ∷ values_of xs

pub filled_more : (a : Around) (fs : List (List ℕ × Term)) (f : List ℕ × Term) (xs : List Field) (x : Field) → AreFilled fs a xs → x.0 ≡ f.0 → IsValue a f.1 x.1 →
    AreFilled (fs ++ f ∷ []) a (xs ++ x ∷ [])
filled_more a [] f [] x h e k = (e, k, tt)
filled_more a [] f (y ∷ xs) x h e k = absurd h
filled_more a (g ∷ fs) f [] x h e k = absurd h
filled_more a (g ∷ fs) f (y ∷ xs) x h e k = (h.0, h.1, filled_more a fs f xs x h.2 e k)

filled_values : (a : Around) (fs : List (List ℕ × Term)) (xs : List Field) → AreFilled fs a xs → AreValues (meanings (field_terms fs)) a (values_of xs)
filled_values a [] [] h = tt
filled_values a [] (x ∷ xs) h = absurd h
filled_values a (f ∷ fs) [] h = absurd h
filled_values a (f ∷ fs) (x ∷ xs) h = (h.1, filled_values a fs xs h.2)

filled_fields : (a : Around) (fs : List (List ℕ × Term)) (xs : List Field) → AreFilled fs a xs → field_list xs ≡ fields_by (term_field_names fs) (values_of xs)
filled_fields a [] [] h = refl
filled_fields a [] (x ∷ xs) h = absurd h
filled_fields a (f ∷ fs) [] h = absurd h
filled_fields a (f ∷ fs) (x ∷ xs) h = ap (λ n. field n x.1 (field_list xs)) h.0 ∙ ap (field f.0 x.1) (filled_fields a fs xs h.2)

-- the record of such fields
pub filled_made : (a : Around) (fs : List (List ℕ × Term)) (xs : List Field) → AreFilled fs a xs →
    OfAll (meanings (field_terms fs)) a (λ ds. rec (field_list xs) ≡ rec (fields_by (term_field_names fs) ds))
filled_made a fs xs h = (values_of xs, filled_values a fs xs h, ap rec (filled_fields a fs xs h))

below_filled : (a : Around) (n : List ℕ) (fs : List (List ℕ × Term)) (xs : List Field) → IsBelowNames n (term_field_names fs) → AreFilled fs a xs → IsNameBelowAll n xs
below_filled a n [] [] r h = tt
below_filled a n [] (x ∷ xs) r h = absurd h
below_filled a n (f ∷ fs) [] r h = absurd h
below_filled a n (f ∷ fs) (x ∷ xs) r h = (subst (IsBelow n) (sym h.0) r.0, below_filled a n fs xs r.1 h.2)

pub filled_rise : (a : Around) (fs : List (List ℕ × Term)) (xs : List Field) → NamesRise (term_field_names fs) → AreFilled fs a xs → AreNamesRising xs
filled_rise a [] [] r h = tt
filled_rise a [] (x ∷ xs) r h = absurd h
filled_rise a (f ∷ fs) [] r h = absurd h
filled_rise a (f ∷ fs) (x ∷ xs) r h = (subst (λ (n : List ℕ). IsNameBelowAll n xs) (sym h.0) (below_filled a f.0 fs xs r.0 h.2), filled_rise a fs xs r.1 h.2)
