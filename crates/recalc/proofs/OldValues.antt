-- What a source gives to a session that is carried to an edited app, and the values of the formulas that the edit left.
use Rattle.std.proofs.Common.{◌≡◌, ℕ, ◌<◌, List, length, get_or, Option, Some, None, refl, sym, subst, ap, ◌∙◌, arith, if◌then◌else◌}
use Rattle.std.proofs.lemmas.List.FromFn.{get_or-map-range_with_len}
use Rattle.std.proofs.lemmas.List.{get_or_default}
use Rattle.std.proofs.lemmas.Option.{slice_get-map, slice_get_within}
use Rattle.std.specs.Prelude.{option_and_then, option_map, slice_get, ◌&&◌}
use Rattle.fx_types.specs.TypeView.{shape}
use Rattle.fx_types.specs.Values.{Data, blank, tab, no_rows}
use Rattle.fx_types.specs.declared.controls.Control.{Control}
use Rattle.fx_types.specs.declared.types.Ty.{Ty}
use Rattle.fx_core.specs.declared.names.Collection.{Collection}
use Rattle.fx_core.specs.declared.names.ControlName.{ControlName}
use Rattle.fx_core.specs.declared.names.Variable.{Variable}
use Rattle.fx_core.specs.declared.schema.Schema.{Schema}
use Rattle.fx_core.specs.declared.sources.Source.{Source}
use Rattle.fx_core.specs.declared.sources.Source.TheVariants as source
use Rattle.fx_typing.specs.Ways.{same_shape}
use Rattle.recalc.specs.Asking.{ToldRows}
use Rattle.recalc.specs.app_cells.Leaning.{cell_behind, default_cell, items_cell}
use Rattle.recalc.specs.app_cells.declared.app.App.{App}
use Rattle.recalc.specs.app_semantics.Chosen.{chosen_of}
use Rattle.recalc.specs.app_semantics.Present.{SourceGives, GivesTable, given_or, present, unset_value, cell_value_or}
use Rattle.session_state.specs.Carrying.{carried, carried_values, collection_was, is_place, place_of_collection, place_of_variable, variable_was, was_at}
use Rattle.session_state.specs.Carrying as carrying
use Rattle.session_state.specs.Sessions.{SessionState, stored_value}
use Rattle.recalc.specs.Carrying.{IsEditOf, IsOldBehind, IsOldSource}

-- ---- values that are carried
-- a place that was one is within the new list, and it was within the old one
is_some : {A : Type 0} (n : Option A) (i : A) → n ≡ Some i → (x : A) × (n ≡ Some x)
is_some n i e = (i, e)

was_within : {A : Type 0} (type : A → Ty) (in_old in_new : A → Option ℕ) (olds news : List A) (k i : ℕ) → was_at type in_old in_new olds news k ≡ Some i → k < length news
was_within {A} type in_old in_new olds news k i e = by (slice_get news k) refl e
  where
    by : (o : Option A) → slice_get news k ≡ o →
        option_and_then (λ y. option_and_then (λ i. option_and_then (λ x. if is_place k (in_new x) && same_shape (shape (type x)) (shape (type y)) then Some i else None) (slice_get olds i)) (in_old y)) o ≡ Some i → k < length news
    by None at h = absurd cc
    by (Some y) at h = slice_get_within news k y at

carried_at : (was_of : ℕ → Option ℕ) (d : Data) (ds : List Data) (n k i : ℕ) → k < n → was_of k ≡ Some i → get_or (carried_values was_of d ds n) k blank ≡ get_or ds i d
carried_at was_of d ds n k i lt e = get_or-map-range_with_len (λ j. carrying.value_or d ds (was_of j)) 0 n k k blank lt (omega arith) ∙ ap (λ (o : Option ℕ). carrying.value_or d ds o) e

-- ---- inputs and chosen items
unset_kind : (o p : Option ControlName) → option_map (λ (c : ControlName). c.kind) o ≡ option_map (λ (c : ControlName). c.kind) p → unset_value o ≡ unset_value p
unset_kind None None e = refl
unset_kind None (Some d) e = absurd cc
unset_kind (Some c) None e = absurd cc
unset_kind (Some c) (Some d) e = by c.kind d.kind (let h : Some c.kind ≡ Some d.kind = e in cc)
  where
    by : (x y : Control) → x ≡ y → unset_value (Some c) ≡ unset_value (Some d)
    by x y q = let kinds : c.kind ≡ d.kind = (let h : Some c.kind ≡ Some d.kind = e in cc) in ap (λ (k : Control). unset_value (Some (record c { kind = k }))) kinds

-- the value behind a source, where those of cells are the old ones
value_old : (old new : App) (values others : ℕ → Data) (n o : Option ℕ) (u w : Data) → u ≡ w → IsOldBehind old new n o → ((k j : ℕ) → n ≡ Some k → o ≡ Some j → others k ≡ values j) → cell_value_or values w o ≡ cell_value_or others u n
value_old old new values others (Some k) (Some j) u w e b h = sym (h k j refl refl)
value_old old new values others None None u w e b h = sym e
value_old old new values others (Some k) None u w e b h = absurd b
value_old old new values others None (Some j) u w e b h = absurd b

module _ (old new : App) (edit : IsEditOf old new) (s : SessionState) (long : (j k : ℕ) → collection_was old.names new.names k ≡ Some j → j < length s.collections) (tables : ToldRows) (m : ℕ) (values others : ℕ → Data) where
  unset_same : (j : ℕ) → unset_value (slice_get new.names.controls j) ≡ unset_value (slice_get old.names.controls j)
  unset_same j =
      let kind : ControlName → Control = λ c. c.kind in
      unset_kind (slice_get new.names.controls j) (slice_get old.names.controls j)
      (sym (slice_get-map kind new.names.controls j) ∙ ap (λ (xs : List Control). slice_get xs j) (sym edit.alike.controls) ∙ slice_get-map kind old.names.controls j)

  input_old : (j : ℕ) (d : Data) → IsOldBehind old new (default_cell new.names j) (default_cell old.names j) → ((k i : ℕ) → default_cell new.names j ≡ Some k → default_cell old.names j ≡ Some i → others k ≡ values i) →
      SourceGives (present old s tables m) values (source.Input j) d → SourceGives (present new (carried old.names new.names s) tables m) others (source.Input j) d
  input_old j d b h g = g ∙ ap (given_or (stored_value s (source.Input j))) (value_old old new values others (default_cell new.names j) (default_cell old.names j) _ _ (unset_same j) b h)

  chosen_old : (j : ℕ) (d : Data) → IsOldBehind old new (items_cell new.names j) (items_cell old.names j) → ((k i : ℕ) → items_cell new.names j ≡ Some k → items_cell old.names j ≡ Some i → others k ≡ values i) →
      SourceGives (present old s tables m) values (source.Chosen j) d → SourceGives (present new (carried old.names new.names s) tables m) others (source.Chosen j) d
  chosen_old j d b h g = g ∙ ap (chosen_of (get_or s.chosen j None)) (value_old old new values others (items_cell new.names j) (items_cell old.names j) (tab no_rows) (tab no_rows) refl b h)

  -- what a source gave, the one that was it gives to the session that is carried
  pub gives_old : (x r : Source) (d : Data) → IsOldSource old new x r → ((k j : ℕ) → cell_behind new.names x ≡ Some k → cell_behind old.names r ≡ Some j → others k ≡ values j) →
      SourceGives (present old s tables m) values r d → SourceGives (present new (carried old.names new.names s) tables m) others x d
  gives_old (source.Cell k) (source.Cell j) d o h g = g ∙ sym (h k j refl refl)
  gives_old (source.Global k) (source.Global j) d o h g = g ∙ sym (carried_at (variable_was old.names new.names) blank s.variables (length new.names.variables) k j (was_within (λ (v : Variable). v.ty) (place_of_variable old.names new.names) (place_of_variable new.names old.names) old.names.variables new.names.variables k j o) o)
  gives_old (source.Context k) (source.Context j) d o h g = g ∙ sym (carried_at (variable_was old.names new.names) blank s.variables (length new.names.variables) k j (was_within (λ (v : Variable). v.ty) (place_of_variable old.names new.names) (place_of_variable new.names old.names) old.names.variables new.names.variables k j o) o)
  gives_old (source.Gathered k) (source.Gathered j) d o h g =
      g ∙ get_or_default s.collections j blank (tab no_rows) (long j k o)
      ∙ sym (carried_at (collection_was old.names new.names) (tab no_rows) s.collections (length new.names.collections) k j (was_within (λ (c : Collection). c.ty) (place_of_collection old.names) (place_of_collection new.names) old.names.collections new.names.collections k j o) o)
  gives_old (source.Input k) (source.Input j) d o h g =
      subst (λ n. SourceGives (present new (carried old.names new.names s) tables m) others (source.Input n) d) (sym o.0)
      (input_old j d (subst (λ n. IsOldBehind old new (default_cell new.names n) (default_cell old.names j)) o.0 o.1) (subst (λ n. (k i : ℕ) → default_cell new.names n ≡ Some k → default_cell old.names j ≡ Some i → others k ≡ values i) o.0 h) g)
  gives_old (source.Chosen k) (source.Chosen j) d o h g =
      subst (λ n. SourceGives (present new (carried old.names new.names s) tables m) others (source.Chosen n) d) (sym o.0)
      (chosen_old j d (subst (λ n. IsOldBehind old new (items_cell new.names n) (items_cell old.names j)) o.0 o.1) (subst (λ n. (k i : ℕ) → items_cell new.names n ≡ Some k → items_cell old.names j ≡ Some i → others k ≡ values i) o.0 h) g)
  gives_old (source.Table k) (source.Table j) d o h g =
      subst (λ n. SourceGives (present new (carried old.names new.names s) tables m) others (source.Table n) d) (sym o) (subst (λ (c : Schema). GivesTable (slice_get c.tables j) tables j d) (sym edit.schema) g)
  gives_old source.Today source.Today d o h g = g
  gives_old x r d o h g = absurd o
