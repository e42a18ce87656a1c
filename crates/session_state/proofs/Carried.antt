-- A session that is carried to an edited app fits it.
use Rattle.std.proofs.Common.{◌≡◌, ℕ, zero, suc, ◌<◌, List, [], ◌∷◌, length, get_or, map, true, Option, Some, None, refl, sym, ◌∙◌, ap, arith}
use Rattle.std.specs.Prelude.{option_and_then, option_map, slice_get}
use Rattle.std.specs.List.{range_with_len}
use Rattle.std.proofs.lemmas.List.FromFn.{get_or-map-range_with_len, length-map-range_with_len}
use Rattle.std.proofs.lemmas.List.Quantifiers.{position-Some}
use Rattle.std.proofs.lemmas.Bool.{and_parts}
use Rattle.std.proofs.lemmas.Option.{get_or_from_slice_get}
use Rattle.fx_types.specs.TypeView.{shape}
use Rattle.fx_types.specs.Types.{Shape}
use Rattle.fx_types.specs.Values.{Data, blank, tab, no_rows}
use Rattle.fx_value.specs.Fits.{fits_in}
use Rattle.fx_core.specs.Controls.{input_type}
use Rattle.fx_core.specs.SourceTypes.{sources, if_global, if_context}
use Rattle.fx_core.specs.declared.names.Collection.{Collection}
use Rattle.fx_core.specs.declared.names.ControlName.{ControlName}
use Rattle.fx_core.specs.declared.names.Names.{Names}
use Rattle.fx_core.specs.declared.names.Variable.{Variable}
use Rattle.fx_core.specs.declared.sources.Source.{Source}
use Rattle.fx_core.specs.declared.sources.Source.TheVariants as source
use Rattle.fx_typing.proofs.Same.{shape_same}
use Rattle.session_state.specs.Carrying.{AreAlike, carried, carried_values, value_or, is_screen_of_same_name, is_same_variable, variable_was, collection_was, place_of_variable, place_of_collection}
use Rattle.session_state.specs.Changes.{FitsNames, HoldsTables, IsOwn}
use Rattle.session_state.specs.Sessions.{Holds, SessionState, stored_value}
use Rattle.session_state.proofs.Fitting.{mapped_within, typed_within}
use Rattle.session_state.proofs.Moving.{was}

-- ---- a value that is carried fits, where each that was kept does

carried_fits_at : (was_of : ℕ → Option ℕ) (d : Data) (ds : List Data) (n k : ℕ) (t : Shape) (o : Option ℕ) → k < n → was_of k ≡ o → fits_in d t ≡ true → ((i : ℕ) → was_of k ≡ Some i → fits_in (get_or ds i d) t ≡ true) → fits_in (get_or (carried_values was_of d ds n) k blank) t ≡ true
carried_fits_at was_of d ds n k t None lt e empty kept =
    ap (λ (x : Data). fits_in x t) (get_or-map-range_with_len (λ j. value_or d ds (was_of j)) 0 n k k blank lt (omega arith) ∙ ap (λ (o : Option ℕ). value_or d ds o) e) ∙ empty
carried_fits_at was_of d ds n k t (Some i) lt e empty kept =
    ap (λ (x : Data). fits_in x t) (get_or-map-range_with_len (λ j. value_or d ds (was_of j)) 0 n k k blank lt (omega arith) ∙ ap (λ (o : Option ℕ). value_or d ds o) e) ∙ kept i e

-- the default beyond a list is no matter within it
get_or_within : (ds : List Data) (i : ℕ) (d e : Data) → i < length ds → get_or ds i d ≡ get_or ds i e
get_or_within [] i d e lt = absurd (omega arith)
get_or_within (x ∷ xs) zero d e lt = refl
get_or_within (x ∷ xs) (suc i) d e lt = get_or_within xs i d e (omega arith)

pub held_within : (n : ℕ) (f : ℕ → Data) (k : ℕ) → k < n → k < length (map f (range_with_len 0 n))
held_within n f k lt = let e = length-map-range_with_len f 0 n in omega arith

-- ---- the variable that a place was

same_variable : (n m : Names) (a b : Variable) (i : ℕ) → place_of_variable n m b ≡ Some i → slice_get n.variables i ≡ Some a → is_same_variable n m a b ≡ true
same_variable n m a b i found at =
    let passes = (position-Some (λ v. is_same_variable n m v b) n.variables i a found).1 in
    ap (λ (v : Variable). is_same_variable n m v b) (sym (get_or_from_slice_get n.variables i a a at)) ∙ passes

same_screen : (n m : Names) (a b : Variable) → is_same_variable n m a b ≡ true → is_screen_of_same_name n m a.screen b.screen ≡ true
same_screen n m a b e = (and_parts _ _ e).1

one_global : (n m : Names) (o p : Option ℕ) (s t : Shape) → is_screen_of_same_name n m o p ≡ true → if_global p t ≡ Some s → if_global o t ≡ Some s
one_global n m None None s t e f = f
one_global n m (Some j) None s t e f = absurd cc
one_global n m o (Some k) s t e f = absurd cc

one_context : (n m : Names) (o p : Option ℕ) (s t : Shape) → is_screen_of_same_name n m o p ≡ true → if_context p t ≡ Some s → if_context o t ≡ Some s
one_context n m (Some j) (Some k) s t e f = f
one_context n m None (Some k) s t e f = absurd cc
one_context n m o None s t e f = absurd cc

module _ (n m : Names) (s : SessionState) (tables : HoldsTables m) (f : FitsNames n s) where
  -- a variable that kept its value, by its kind
  kept : (X : ℕ → Source) (kind : Option ℕ → Shape → Option Shape)
      → ((x : Variable) (i : ℕ) (u : Shape) → slice_get n.variables i ≡ Some x → kind x.screen (shape x.ty) ≡ Some u → fits_in (get_or s.variables i blank) u ≡ true)
      → ((o p : Option ℕ) (u t : Shape) → is_screen_of_same_name n m o p ≡ true → kind p t ≡ Some u → kind o t ≡ Some u)
      → (k i : ℕ) (t : Shape) → option_and_then (λ (v : Variable). kind v.screen (shape v.ty)) (slice_get m.variables k) ≡ Some t → variable_was n m k ≡ Some i
      → fits_in (get_or s.variables i blank) t ≡ true
  kept X kind fits one k i t e g =
      let w = was (λ (v : Variable). v.ty) (place_of_variable n m) (place_of_variable m n) n.variables m.variables k i g in
      let screens = same_screen n m w.old w.new (same_variable n m w.old w.new i w.found w.old_at) in
      let new : kind w.new.screen (shape w.new.ty) ≡ Some t = sym (ap (option_and_then (λ (v : Variable). kind v.screen (shape v.ty))) w.new_at) ∙ e in
      let old : kind w.old.screen (shape w.new.ty) ≡ Some t = one w.old.screen w.new.screen t (shape w.new.ty) screens new in
      fits w.old i t w.old_at (ap (kind w.old.screen) (shape_same _ _ w.type_same) ∙ old)

  pub fits_global : (k : ℕ) (t : Shape) → sources m (source.Global k) ≡ Some t → fits_in (stored_value (carried n m s) (source.Global k)) t ≡ true
  fits_global k t e =
      let lt = typed_within m.variables k t (λ (v : Variable). if_global v.screen (shape v.ty)) e in
      carried_fits_at (variable_was n m) blank s.variables (length m.variables) k t _ lt refl refl
      (λ i g. kept (λ j. source.Global j) if_global (λ x j u at h. f.values_fit (source.Global j) u tt (ap (option_and_then (λ (v : Variable). if_global v.screen (shape v.ty))) at ∙ h)) (λ o p u t' h h'. one_global n m o p u t' h h') k i t e g)

  pub fits_context : (k : ℕ) (t : Shape) → sources m (source.Context k) ≡ Some t → fits_in (stored_value (carried n m s) (source.Context k)) t ≡ true
  fits_context k t e =
      let lt = typed_within m.variables k t (λ (v : Variable). if_context v.screen (shape v.ty)) e in
      carried_fits_at (variable_was n m) blank s.variables (length m.variables) k t _ lt refl refl
      (λ i g. kept (λ j. source.Context j) if_context (λ x j u at h. f.values_fit (source.Context j) u tt (ap (option_and_then (λ (v : Variable). if_context v.screen (shape v.ty))) at ∙ h)) (λ o p u t' h h'. one_context n m o p u t' h h') k i t e g)

  kept_collection : (k i : ℕ) (t : Shape) → sources m (source.Gathered k) ≡ Some t → collection_was n m k ≡ Some i → fits_in (get_or s.collections i (tab no_rows)) t ≡ true
  kept_collection k i t e g =
      let w = was (λ (c : Collection). c.ty) (place_of_collection n) (place_of_collection m) n.collections m.collections k i g in
      let new : Some (shape w.new.ty) ≡ Some t = sym (ap (option_map (λ (c : Collection). shape c.ty)) w.new_at) ∙ e in
      let type : shape w.old.ty ≡ t = shape_same _ _ w.type_same ∙ (cc) in
      let old : sources n (source.Gathered i) ≡ Some t = ap (option_map (λ (c : Collection). shape c.ty)) w.old_at ∙ ap (λ (u : Shape). Some u) type in
      let there : i < length s.collections = f.sources_held (source.Gathered i) t tt old in
      ap (λ (d : Data). fits_in d t) (get_or_within s.collections i (tab no_rows) blank there) ∙ f.values_fit (source.Gathered i) t tt old

  pub fits_gathered : (k : ℕ) (t : Shape) → sources m (source.Gathered k) ≡ Some t → fits_in (stored_value (carried n m s) (source.Gathered k)) t ≡ true
  fits_gathered k t e =
      let lt = mapped_within m.collections k t (λ (c : Collection). shape c.ty) e in
      carried_fits_at (collection_was n m) (tab no_rows) s.collections (length m.collections) k t _ lt refl (tables k t e) (λ i g. kept_collection k i t e g)

module _ (n m : Names) (s : SessionState) (alike : AreAlike n m) (tables : HoldsTables m) (f : FitsNames n s) where
  -- what users gave stays
  kind_at : (cs ds : List ControlName) (k : ℕ) → map (λ (c : ControlName). c.kind) cs ≡ map (λ (c : ControlName). c.kind) ds → option_and_then (λ (c : ControlName). input_type c.kind) (slice_get cs k) ≡ option_and_then (λ (c : ControlName). input_type c.kind) (slice_get ds k)
  kind_at [] [] k e = refl
  kind_at [] (d ∷ ds) k e = absurd cc
  kind_at (c ∷ cs) [] k e = absurd cc
  kind_at (c ∷ cs) (d ∷ ds) zero e = ap input_type (let is : c.kind ≡ d.kind = cc in is)
  kind_at (c ∷ cs) (d ∷ ds) (suc k) e = kind_at cs ds k (let is : map (λ (x : ControlName). x.kind) cs ≡ map (λ (x : ControlName). x.kind) ds = cc in is)

  input_was : (k : ℕ) (t : Shape) → sources m (source.Input k) ≡ Some t → sources n (source.Input k) ≡ Some t
  input_was k t e = kind_at n.controls m.controls k alike.controls ∙ e

  holds : (x : Source) (t : Shape) → IsOwn x → sources m x ≡ Some t → Holds (carried n m s) x
  holds (source.Global k) t own e = held_within (length m.variables) _ k (typed_within m.variables k t (λ (v : Variable). if_global v.screen (shape v.ty)) e)
  holds (source.Context k) t own e = held_within (length m.variables) _ k (typed_within m.variables k t (λ (v : Variable). if_context v.screen (shape v.ty)) e)
  holds (source.Gathered k) t own e = held_within (length m.collections) _ k (mapped_within m.collections k t (λ (c : Collection). shape c.ty) e)
  holds (source.Input k) t own e = f.sources_held (source.Input k) t tt (input_was k t e)
  holds (source.Cell k) t own e = own
  holds (source.Chosen k) t own e = own
  holds (source.Table k) t own e = own
  holds source.Today t own e = own

  fits : (x : Source) (t : Shape) → IsOwn x → sources m x ≡ Some t → fits_in (stored_value (carried n m s) x) t ≡ true
  fits (source.Global k) t own e = fits_global n m s tables f k t e
  fits (source.Context k) t own e = fits_context n m s tables f k t e
  fits (source.Gathered k) t own e = fits_gathered n m s tables f k t e
  fits (source.Input k) t own e = f.values_fit (source.Input k) t tt (input_was k t e)
  fits (source.Cell k) t own e = absurd own
  fits (source.Chosen k) t own e = absurd own
  fits (source.Table k) t own e = absurd own
  fits source.Today t own e = absurd own

  lengths : (cs ds : List ControlName) → map (λ (c : ControlName). c.kind) cs ≡ map (λ (c : ControlName). c.kind) ds → length cs ≡ length ds
  lengths [] [] e = refl
  lengths [] (d ∷ ds) e = absurd cc
  lengths (c ∷ cs) [] e = absurd cc
  lengths (c ∷ cs) (d ∷ ds) e = let more = lengths cs ds (let is : map (λ (x : ControlName). x.kind) cs ≡ map (λ (x : ControlName). x.kind) ds = cc in is) in omega arith

  pub fits_carried : FitsNames m (carried n m s)
  fits_carried = record {
    screen = let lt = f.screen in let e = alike.screens in omega arith;
    controls = f.controls ∙ lengths n.controls m.controls alike.controls;
    sources_held = holds;
    values_fit = fits;
    spare = refl;
  }
