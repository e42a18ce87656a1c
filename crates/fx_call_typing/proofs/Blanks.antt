-- Blanks under the names of columns.
use Rattle.std.proofs.Common.{◌≡◌, ℕ, zero, suc, ◌≤◌, List, [], ◌∷◌, length, take, map, refl, ap, ◌∙◌, arith}
use Rattle.fx_types.proofs.Risings.{names_of, rising_names}
use Rattle.fx_types.specs.Rising.{AreNamesRising}
use Rattle.fx_types.specs.Types.{Shape, column_list}
use Rattle.fx_types.specs.TypeView.{columns_view}
use Rattle.fx_types.specs.declared.types.Ty.{Ty}
use Rattle.fx_types.specs.Values.{Data, blank, field, field_list}
use Rattle.fx_typing.specs.Builds.{blank_fields}

-- a blank for each of these
abbrev pub blanked : {A : Type 0} → List (List ℕ × A) → List (List ℕ × Data)
blanked = map (λ c. (c.0, blank))

same_names : {A : Type 0} (cs : List (List ℕ × A)) → names_of cs ≡ names_of (blanked cs)
same_names [] = refl
same_names (c ∷ cs) = ap (λ ns. c.0 ∷ ns) (same_names cs)

pub blanks_rise : {A : Type 0} (cs : List (List ℕ × A)) → AreNamesRising cs → AreNamesRising (blanked cs)
blanks_rise cs h = rising_names cs (blanked cs) (same_names cs) h

pub blanks_are : (cs : List (List ℕ × Shape)) → field_list (blanked cs) ≡ blank_fields (column_list cs)
blanks_are [] = refl
blanks_are (c ∷ cs) = ap (field c.0 blank) (blanks_are cs)

take_end : {A : Type 0} (cs : List A) (i : ℕ) → length cs ≤ i → take i cs ≡ cs
take_end [] zero h = refl
take_end [] (suc i) h = refl
take_end (c ∷ cs) zero h = absurd (omega arith)
take_end (c ∷ cs) (suc i) h = ap (λ ds. c ∷ ds) (take_end cs i (omega arith))

view_blanked : (cs : List (List ℕ × Ty)) → blanked cs ≡ blanked (columns_view cs)
view_blanked [] = refl
view_blanked (c ∷ cs) = ap (λ ds. (c.0, blank) ∷ ds) (view_blanked cs)

-- at the end all are blank
pub all_blanked : (cs : List (List ℕ × Ty)) (xs : List (List ℕ × Shape)) (i : ℕ) → columns_view cs ≡ xs → length cs ≤ i → blanked (take i cs) ≡ blanked xs
all_blanked cs xs i e h = ap blanked (take_end cs i h) ∙ view_blanked cs ∙ ap blanked e
