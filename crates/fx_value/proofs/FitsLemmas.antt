-- What fits has as many fields as there are columns.
use Rattle.std.proofs.Common.{◌≡◌, ℕ, List, [], ◌∷◌, length, false, arith, refl}
use Rattle.std.specs.Prelude.{◌≢◌}
use Rattle.fx_types.specs.Values.{field_list}
use Rattle.fx_types.specs.ValueView.{fields_view}
use Rattle.fx_types.specs.TypeView.{columns_view}
use Rattle.fx_types.specs.declared.values.Value.{Value}
use Rattle.fx_types.specs.declared.types.Ty.{Ty}
use Rattle.fx_value.specs.Fits.{fields_fit}
use Rattle.fx_types.specs.Types.{column_list}

pub no_fit_of_lengths : (fs : List (List ℕ × Value)) (cs : List (List ℕ × Ty)) → length fs ≢ length cs → false ≡ fields_fit (field_list (fields_view fs)) (column_list (columns_view cs))
no_fit_of_lengths [] [] h = absurd (h refl)
no_fit_of_lengths [] (c ∷ cs) h = refl
no_fit_of_lengths (f ∷ fs) [] h = refl
no_fit_of_lengths (f ∷ fs) (c ∷ cs) h = grind (arith, no_fit_of_lengths fs cs)
