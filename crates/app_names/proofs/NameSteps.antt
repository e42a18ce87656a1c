-- Names in a set.
use Rattle.std.proofs.Common.{◌≡◌, ℕ, Bool, true, false, List, [], ◌∷◌, ◌++◌, cond, bytes_eq, refl, ap, sym, ◌∙◌}
use Rattle.std.specs.Prelude.{◌||◌}
use Rattle.std.proofs.Math.Path.{fun_ext}
use Rattle.std.proofs.lemmas.List.Folds.{list_any-append}
use Rattle.std.proofs.lemmas.Map.Text.{is_eq-slice_cmp}
use Rattle.std.specs.BTreeMap.{is_at}
use Rattle.std.specs.BTreeSet.{BTreeSet, contains}
use Rattle.std.specs.Cmp.Lexicographic.{slice_cmp}
use Rattle.std.specs.Ordering.{nat_cmp}
use Rattle.app_names.specs.Declarations.{is_name_among}
use Rattle.app_names.specs.Tops.{is_name_in_set}

either_way : (a b : Bool) → cond b true a ≡ (a || (b || false))
either_way true true = refl
either_way true false = refl
either_way false true = refl
either_way false false = refl

-- one name more in the set
pub name_more : (old new : BTreeSet (List ℕ)) (x : List ℕ) (xs : List (List ℕ))
    → ((q : List ℕ) → contains (slice_cmp nat_cmp) new q ≡ cond (is_at (slice_cmp nat_cmp x) q) true (contains (slice_cmp nat_cmp) old q))
    → is_name_in_set old ≡ is_name_among xs → is_name_in_set new ≡ is_name_among (xs ++ x ∷ [])
name_more old new x xs updates names = fun_ext (λ q.
    updates q ∙ ap (λ b. cond b true (is_name_in_set old q)) (is_eq-slice_cmp x q)
    ∙ ap (cond (bytes_eq x q) true) (λ j. names j q)
    ∙ either_way (is_name_among xs q) (bytes_eq x q)
    ∙ sym (list_any-append (λ y. bytes_eq y q) xs (x ∷ [])))
