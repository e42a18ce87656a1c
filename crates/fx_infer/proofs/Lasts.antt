-- The last of several values.
use Rattle.std.proofs.Common.{◌≡◌, ◌-◌, ◌∙◌, suc, List, [], ◌∷◌, Some, length, map, slice_get, ap, arith, sym}
use Rattle.fx_types.specs.TypeView.{shape}
use Rattle.fx_typing.specs.Builds.{types_of}
use Rattle.fx_typing.specs.declared.typed.Typed.{Typed}
use Rattle.fx_typing.specs.TypedView.{typed}
use Rattle.fx_typing.specs.WellTyped.{last_type}

pub last_shape : (xs : List Typed) (x : Typed) → Some x ≡ slice_get xs (length xs - 1) → last_type (types_of (map typed xs)) ≡ Some (shape x.ty)
last_shape [] x h = absurd cc
last_shape (y ∷ []) x h = let q : x ≡ y = cc in ap (λ (z : Typed). Some (shape z.ty)) (sym q)
last_shape (y ∷ z ∷ ys) x h =
    let a : length {A = Typed} (y ∷ z ∷ ys) - 1 ≡ suc (length ys) = omega arith in
    let b : length ys ≡ length {A = Typed} (z ∷ ys) - 1 = omega arith in
    last_shape (z ∷ ys) x (h ∙ ap (slice_get (y ∷ z ∷ ys)) a ∙ ap (slice_get (z ∷ ys)) b)
