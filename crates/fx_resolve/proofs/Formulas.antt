-- A named formula is what its name means among formulas.
use Rattle.std.proofs.Common.{◌≡◌, ℕ, List, Option, Some, None, option_map, bytes_eq, refl, ap, ◌∙◌}
use Rattle.fx_core.specs.Formulas.{formula_named}
use Rattle.fx_core.specs.declared.names.FormulaName.{FormulaName}
use Rattle.fx_typing.proofs.PlaceLemmas.{thing_found}
use Rattle.fx_typing.specs.Meaning as meaning
use Rattle.fx_resolve.specs.MeaningView.{formula_meant, in_formulas}

by_thing : {A B : Type 0} (go : A → B) (o : Option (ℕ × A)) → option_map (λ (k : ℕ × A). go k.1) o ≡ option_map go (option_map (λ (k : ℕ × A). k.1) o)
by_thing go None = refl
by_thing go (Some k) = refl

pub formula_found : (fs : List FormulaName) (x : List ℕ) → in_formulas fs x ≡ option_map formula_meant (formula_named x fs)
formula_found fs x =
    by_thing formula_meant (meaning.first_match (λ (f : FormulaName). bytes_eq f.name x) 0 fs)
    ∙ ap (option_map formula_meant) (thing_found (λ (f : FormulaName). bytes_eq f.name x) 0 fs)
