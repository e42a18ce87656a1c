-- The value of a field, found or not.
use Rattle.std.proofs.Common.{◌≡◌, ℕ, List, [], ◌∷◌, Bool, true, false, Some, None, refl}
use Rattle.std.specs.Prelude.{bytes_eq, if◌then◌else◌}
use Rattle.fx_types.specs.Lookup.{item_named}
use Rattle.fx_types.specs.Values.{Data, blank, field_list}
use Rattle.fx_value.specs.Coercion.{field_or_blank}

pub value_found : (n : List ℕ) (fs : List (List ℕ × Data)) (d : Data) → Some d ≡ item_named n fs → d ≡ field_or_blank n (field_list fs)
value_found n [] d e = absurd cc
value_found n (f ∷ fs) d e = by (bytes_eq f.0 n) (value_found n fs d) e
  where
    by : (b : Bool) → (Some d ≡ item_named n fs → d ≡ field_or_blank n (field_list fs)) → Some d ≡ (if b then Some f.1 else item_named n fs) →
        d ≡ (if b then f.1 else field_or_blank n (field_list fs))
    by true r e = cc
    by false r e = r e

pub none_found : (n : List ℕ) (fs : List (List ℕ × Data)) → None ≡ item_named n fs → blank ≡ field_or_blank n (field_list fs)
none_found n [] e = refl
none_found n (f ∷ fs) e = by (bytes_eq f.0 n) (none_found n fs) e
  where
    by : (b : Bool) → (None ≡ item_named n fs → blank ≡ field_or_blank n (field_list fs)) → None ≡ (if b then Some f.1 else item_named n fs) →
        blank ≡ (if b then f.1 else field_or_blank n (field_list fs))
    by true r e = absurd cc
    by false r e = r e
