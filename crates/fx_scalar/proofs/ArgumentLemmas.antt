-- What stands at a place of the arguments.
use denote.Ref.{Bor}
use Rattle.std.proofs.Common.{◌≡◌, ℕ, ◌+◌, ◌<◌, ◌≤◌, List, [], ◌∷◌, ◌++◌, length, get_or, take, map, ap, sym, refl, ◌∙◌}
use Rattle.std.proofs.lemmas.List.{take_more, map-append}
use Rattle.std.proofs.lemmas.Option.{slice_get-map, slice_get_past, slice_get_read}
use Rattle.std.specs.Prelude.{Option, Some, None, unwrap_or, option_map, MatchOption}
use Rattle.std.specs.Slice.{IsItemAt}
use Rattle.fx_types.specs.Values.{Data, blank}
use Rattle.fx_types.specs.ValueView.{view}
use Rattle.fx_types.specs.declared.values.Value.{Value}
use Rattle.fx_scalar.specs.Arguments.{argument_at, views}

pub at_none : (args : List Value) (i : ℕ) → length args ≤ i → argument_at (views args) i ≡ blank
at_none args i h = ap (λ o. unwrap_or o blank) (slice_get-map view args i ∙ ap (option_map view) (slice_get_past args i h))

pub at_some : (args : List Value) (i : ℕ) (v : Value) → i < length args → v ≡ get_or args i v → argument_at (views args) i ≡ view v
at_some args i v h e = ap (λ o. unwrap_or o blank) (slice_get-map view args i ∙ ap (option_map view) (slice_get_read args (length args) i v refl h e))

-- the argument that a slice lends
pub at_given : (args : List Value) (i : ℕ) (r : Option (Bor Value)) → IsItemAt args i r → MatchOption r (argument_at (views args) i ≡ blank) (λ v. argument_at (views args) i ≡ view v.now)
at_given args i None h = at_none args i h.3
at_given args i (Some x) h = at_some args i x.now h.3.0 h.1

-- one more argument, as f takes each
pub mapped_more : {X : Type 0} (f : Data → X) (args : List Value) (i : ℕ) (v : Value) → i < length args → v ≡ get_or args i v
    → map f (views (take (i + 1) args)) ≡ map f (views (take i args)) ++ f (view v) ∷ []
mapped_more f args i v h e =
    ap (λ vs. map f (map view vs)) (take_more args i v h ∙ ap (λ x. take i args ++ x ∷ []) (sym e))
    ∙ ap (map f) (map-append view (take i args) (v ∷ []))
    ∙ map-append f (map view (take i args)) (view v ∷ [])
