-- A session that is carried over to another app fits it.
use Rattle.std.proofs.Common.{◌≡◌, ℕ, zero, suc, ◌+◌, ◌<◌, List, [], ◌∷◌, Bool, true, false, length, get_or, map, Option, Some, None, refl, sym, ◌∙◌, ap, subst, arith}
use Rattle.std.specs.Prelude.{◌&&◌, bytes_eq, if◌then◌else◌, option_and_then, option_map, slice_get, unwrap_or}
use Rattle.std.specs.List.{position, range_with_len}
use Rattle.std.proofs.lemmas.Bool.{and_parts, eqb-true}
use Rattle.std.proofs.lemmas.List.FromFn.{get_or-map-range_with_len, length-map-range_with_len}
use Rattle.std.proofs.lemmas.List.Quantifiers.{position-Some}
use Rattle.std.proofs.lemmas.Option.{get_or_from_slice_get}
use Rattle.fx_types.specs.TypeView.{shape}
use Rattle.fx_types.specs.Types.{Shape}
use Rattle.fx_types.specs.Values.{Data, blank}
use Rattle.fx_types.specs.ValueView.{view}
use Rattle.fx_types.specs.declared.controls.Control.{Control}
use Rattle.fx_types.specs.declared.controls.Control.TheVariants as control
use Rattle.fx_types.specs.declared.values.Value.{Value}
use Rattle.fx_value.specs.Fits.{fits_in}
use Rattle.fx_core.specs.Controls.{input_type}
use Rattle.fx_core.specs.SourceTypes.{sources, if_global, if_context}
use Rattle.fx_core.specs.declared.names.Collection.{Collection}
use Rattle.fx_core.specs.declared.names.ControlName.{ControlName}
use Rattle.fx_core.specs.declared.names.Names.{Names}
use Rattle.fx_core.specs.declared.names.Variable.{Variable}
use Rattle.fx_core.specs.declared.sources.Source.{Source}
use Rattle.fx_core.specs.declared.sources.Source.TheVariants as source
use Rattle.session_state.specs.CarriedOver.{carried_over, control_was, is_same_control, is_same_kind, place_of_control, place_of_name, screen_over}
use Rattle.session_state.specs.Carrying.{carried_values, is_place, value_or}
use Rattle.session_state.specs.Changes.{FitsNames, HoldsTables, IsOwn}
use Rattle.session_state.specs.Sessions.{Holds, SessionState, stored_value}
use Rattle.session_state.proofs.Carried.{fits_context, fits_gathered, fits_global, held_within}
use Rattle.session_state.proofs.Fitting.{mapped_within, typed_within}
use Rattle.session_state.proofs.Moving.{AreApart}

place_is : (j : ℕ) (o : Option ℕ) → is_place j o ≡ true → o ≡ Some j
place_is j (Some k) e = let same : j ≡ k = eqb-true j k e in ap (λ (m : ℕ). Some m) (sym same)
place_is j None e = absurd cc

-- where a control was, with what it was
record WasControl (olds news : List ControlName) (j i : ℕ) : Type 0 where
  new : ControlName
  old : ControlName
  new_at : slice_get news j ≡ Some new
  old_at : slice_get olds i ≡ Some old
  found : place_of_control olds new ≡ Some i
  back : place_of_control news old ≡ Some j

abbrev stands : List ControlName → ℕ → ℕ → ControlName → Option ℕ
stands news j k c = if is_place j (place_of_control news c) then Some k else None

module _ (olds news : List ControlName) (j i : ℕ) where
  at_test : (d c : ControlName) (k : ℕ) (b : Bool) → slice_get news j ≡ Some d → place_of_control olds d ≡ Some k → slice_get olds k ≡ Some c → is_place j (place_of_control news c) ≡ b
      → (if b then Some k else None) ≡ Some i → WasControl olds news j i
  at_test d c k true new found old back e =
      let is : k ≡ i = let h : Some k ≡ Some i = e in cc in
      record {
        new = d;
        old = c;
        new_at = new;
        old_at = subst (λ (m : ℕ). slice_get olds m ≡ Some c) is old;
        found = subst (λ (m : ℕ). place_of_control olds d ≡ Some m) is found;
        back = place_is j (place_of_control news c) back;
      }
  at_test d c k false new found old back e = absurd cc

  at_old : (d : ControlName) (k : ℕ) (o : Option ControlName) → slice_get news j ≡ Some d → place_of_control olds d ≡ Some k → slice_get olds k ≡ o → option_and_then (stands news j k) o ≡ Some i → WasControl olds news j i
  at_old d k (Some c) new found old e = at_test d c k (is_place j (place_of_control news c)) new found old refl e
  at_old d k None new found old e = absurd cc

  at_found : (d : ControlName) (o : Option ℕ) → slice_get news j ≡ Some d → place_of_control olds d ≡ o → option_and_then (λ k. option_and_then (stands news j k) (slice_get olds k)) o ≡ Some i → WasControl olds news j i
  at_found d (Some k) new found e = at_old d k (slice_get olds k) new found refl e
  at_found d None new found e = absurd cc

  at_new : (o : Option ControlName) → slice_get news j ≡ o → option_and_then (λ d. option_and_then (λ k. option_and_then (stands news j k) (slice_get olds k)) (place_of_control olds d)) o ≡ Some i → WasControl olds news j i
  at_new (Some d) new e = at_found d (place_of_control olds d) new refl e
  at_new None new e = absurd cc

  was_control : control_was olds news j ≡ Some i → WasControl olds news j i
  was_control e = at_new (slice_get news j) refl e

-- no two controls were one
pub controls_apart : (olds news : List ControlName) → AreApart (control_was olds news)
controls_apart olds news = λ j k i e f.
    let a = was_control olds news j i e in
    let b = was_control olds news k i f in
    let same : a.old ≡ b.old = let h : Some a.old ≡ Some b.old = sym a.old_at ∙ b.old_at in cc in
    let at : Some j ≡ Some k = sym a.back ∙ ap (place_of_control news) same ∙ b.back in cc

kind_is : (a b : Control) → is_same_kind a b ≡ true → a ≡ b
kind_is control.Label control.Label e = refl
kind_is control.Button control.Button e = refl
kind_is control.TextInput control.TextInput e = refl
kind_is control.Slider control.Slider e = refl
kind_is control.Checkbox control.Checkbox e = refl
kind_is control.DatePicker control.DatePicker e = refl
kind_is control.Gallery control.Gallery e = refl
kind_is a b e = absurd cc

-- a control is of the kind that it was
kind_was : (olds news : List ControlName) (j i : ℕ) (w : WasControl olds news j i) → w.old.kind ≡ w.new.kind
kind_was olds news j i w =
    let passes = (position-Some (λ c. is_same_control c w.new) olds i w.old w.found).1 in
    let same : is_same_control w.old w.new ≡ true = ap (λ (c : ControlName). is_same_control c w.new) (sym (get_or_from_slice_get olds i w.old w.old w.old_at)) ∙ passes in
    kind_is w.old.kind w.new.kind (and_parts (bytes_eq w.old.name w.new.name) (is_same_kind w.old.kind w.new.kind) same).1

-- what is seen of kept things is kept of what is seen of them
inputs_seen : (was : ℕ → Option ℕ) (vs : List (Option Value)) (ks : List ℕ) → map (option_map view) (map (λ k. value_or None vs (was k)) ks) ≡ map (λ k. value_or None (map (option_map view) vs) (was k)) ks
inputs_seen was vs [] = refl
inputs_seen was vs (k ∷ ks) = ap (λ d. d ∷ map (option_map view) (map (λ j. value_or None vs (was j)) ks)) (one (was k)) ∙ ap (λ ds. value_or None (map (option_map view) vs) (was k) ∷ ds) (inputs_seen was vs ks)
  where
    at : (xs : List (Option Value)) (i : ℕ) → option_map view (get_or xs i None) ≡ get_or (map (option_map view) xs) i None
    at [] i = refl
    at (x ∷ xs) zero = refl
    at (x ∷ xs) (suc i) = at xs i

    one : (o : Option ℕ) → option_map view (value_or None vs o) ≡ value_or None (map (option_map view) vs) o
    one None = refl
    one (Some i) = at vs i

pub kept_seen : (was : ℕ → Option ℕ) (vs : List (Option Value)) (n : ℕ) → map (option_map view) (carried_values was None vs n) ≡ carried_values was None (map (option_map view) vs) n
kept_seen was vs n = inputs_seen was vs (range_with_len 0 n)

-- the screen is one of the new app
screen_there : (n m : Names) (k : ℕ) → 0 < length m.screens → screen_over n m k < length m.screens
screen_there n m k some = by (slice_get n.screens k)
  where
    at : (name : List ℕ) (o : Option ℕ) → place_of_name m.screens name ≡ o → unwrap_or o 0 < length m.screens
    at name None e = some
    at name (Some i) e = (position-Some (λ x. bytes_eq x name) m.screens i name e).0

    by : (o : Option (List ℕ)) → unwrap_or (option_and_then (place_of_name m.screens) o) 0 < length m.screens
    by None = some
    by (Some name) = at name (place_of_name m.screens name) refl

module _ (n m : Names) (s : SessionState) (some : 0 < length m.screens) (tables : HoldsTables m) (f : FitsNames n s) where
  kept_input : (k i : ℕ) (t : Shape) → sources m (source.Input k) ≡ Some t → control_was n.controls m.controls k ≡ Some i → fits_in (unwrap_or (get_or s.inputs i None) blank) t ≡ true
  kept_input k i t e g =
      let w = was_control n.controls m.controls k i g in
      let new : input_type w.new.kind ≡ Some t = sym (ap (option_and_then (λ (c : ControlName). input_type c.kind)) w.new_at) ∙ e in
      let old : input_type w.old.kind ≡ Some t = ap input_type (kind_was n.controls m.controls k i w) ∙ new in
      f.values_fit (source.Input i) t tt (ap (option_and_then (λ (c : ControlName). input_type c.kind)) w.old_at ∙ old)

  fits_input : (k : ℕ) (t : Shape) → sources m (source.Input k) ≡ Some t → fits_in (stored_value (carried_over n m s) (source.Input k)) t ≡ true
  fits_input k t e =
      let was = control_was n.controls m.controls in
      let lt = typed_within m.controls k t (λ (c : ControlName). input_type c.kind) e in
      let is : get_or (carried_values was None s.inputs (length m.controls)) k None ≡ value_or None s.inputs (was k) = get_or-map-range_with_len (λ j. value_or None s.inputs (was j)) 0 (length m.controls) k k None lt (omega arith) in
      ap (λ (o : Option Data). fits_in (unwrap_or o blank) t) is ∙ by (was k) refl
    where
      by : (o : Option ℕ) → control_was n.controls m.controls k ≡ o → fits_in (unwrap_or (value_or None s.inputs o) blank) t ≡ true
      by None g = refl
      by (Some i) g = kept_input k i t e g

  holds : (x : Source) (t : Shape) → IsOwn x → sources m x ≡ Some t → Holds (carried_over n m s) x
  holds (source.Global k) t own e = held_within (length m.variables) _ k (typed_within m.variables k t (λ (v : Variable). if_global v.screen (shape v.ty)) e)
  holds (source.Context k) t own e = held_within (length m.variables) _ k (typed_within m.variables k t (λ (v : Variable). if_context v.screen (shape v.ty)) e)
  holds (source.Gathered k) t own e = held_within (length m.collections) _ k (mapped_within m.collections k t (λ (c : Collection). shape c.ty) e)
  holds (source.Input k) t own e =
      let lt = typed_within m.controls k t (λ (c : ControlName). input_type c.kind) e in
      let many = length-map-range_with_len (λ j. value_or None s.inputs (control_was n.controls m.controls j)) 0 (length m.controls) in
      omega (arith, lt, many)
  holds (source.Cell k) t own e = own
  holds (source.Chosen k) t own e = own
  holds (source.Table k) t own e = own
  holds source.Today t own e = own

  fits : (x : Source) (t : Shape) → IsOwn x → sources m x ≡ Some t → fits_in (stored_value (carried_over n m s) x) t ≡ true
  fits (source.Global k) t own e = fits_global n m s tables f k t e
  fits (source.Context k) t own e = fits_context n m s tables f k t e
  fits (source.Gathered k) t own e = fits_gathered n m s tables f k t e
  fits (source.Input k) t own e = fits_input k t e
  fits (source.Cell k) t own e = absurd own
  fits (source.Chosen k) t own e = absurd own
  fits (source.Table k) t own e = absurd own
  fits source.Today t own e = absurd own

  pub fits_over : FitsNames m (carried_over n m s)
  fits_over = record {
    screen = screen_there n m s.screen some;
    controls = length-map-range_with_len (λ j. value_or None s.chosen (control_was n.controls m.controls j)) 0 (length m.controls);
    sources_held = holds;
    values_fit = fits;
    spare = refl;
  }
