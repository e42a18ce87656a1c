-- Columns that are not as many.
use Rattle.std.proofs.Common.{◌≡◌, ◌≢◌, ℕ, suc, List, [], ◌∷◌, length, Bool, true, false, ◌&&◌, refl, sym, ap, ◌∙◌, bytes_eq}
use Rattle.fx_types.specs.Types.{column_list}
use Rattle.fx_types.specs.TypeView.{shape, columns_view}
use Rattle.fx_types.specs.declared.types.Ty.{Ty}
use Rattle.fx_typing.specs.Ways.{same_shape, same_columns}

none_of : (a b : Bool) → (a && (b && false)) ≡ false
none_of true true = refl
none_of true false = refl
none_of false b = refl

pub longer_differs : (xs ys : List (List ℕ × Ty)) → length xs ≢ length ys → false ≡ same_columns (column_list (columns_view xs)) (column_list (columns_view ys))
longer_differs [] [] h = absurd (h refl)
longer_differs [] (y ∷ ys) h = refl
longer_differs (x ∷ xs) [] h = refl
longer_differs (x ∷ xs) (y ∷ ys) h =
    sym (none_of (bytes_eq x.0 y.0) (same_shape (shape x.1) (shape y.1)))
    ∙ ap (λ b. bytes_eq x.0 y.0 && (same_shape (shape x.1) (shape y.1) && b)) (longer_differs xs ys (λ e. h (ap suc e)))
