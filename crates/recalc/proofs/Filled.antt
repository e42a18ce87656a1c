-- A cache that is filled with what an edit left.
use Rattle.std.proofs.Common.{◌≡◌, ℕ, ◌<◌, ◌≤◌, [], length, Bool, true, false, Option, Some, None, IsSome, refl, sym, subst, ap, ◌∙◌, arith}
use Rattle.std.specs.Prelude.{slice_get, slice_index}
use Rattle.std.proofs.lemmas.Option.{slice_get_within}
use Rattle.fx_types.specs.TypeView.{shape}
use Rattle.fx_types.specs.Values.{blank}
use Rattle.fx_core.specs.declared.sources.Source.{Source}
use Rattle.fx_core.specs.declared.sources.Source.TheVariants as source
use Rattle.fx_value.specs.Fits.{fits_in}
use Rattle.recalc.proofs.of_app_semantics.Ordered.{by_order, leaning_edge}
use Rattle.recalc.specs.Asking.{ToldRows}
use Rattle.recalc.specs.app_cells.Leaning.{LeansOn, cell_behind, default_cell, edges_of, items_cell}
use Rattle.recalc.specs.app_cells.declared.app.App.{App}
use Rattle.recalc.specs.app_cells.declared.app.CellInfo.{CellInfo}
use Rattle.recalc.specs.app_semantics.Fresh.{IsCellValue}
use Rattle.recalc.specs.app_semantics.Needed.{Needs, further, is_alone, itself}
use Rattle.recalc.specs.app_semantics.Present.{present}
use Rattle.recalc.specs.app_semantics.Sound.{IsSoundApp}
use Rattle.session_state.specs.Carrying.{carried, collection_was}
use Rattle.session_state.specs.Sessions.{SessionState}
use Rattle.recalc.proofs.Freshening.{clean_unmoved}
use Rattle.recalc.proofs.OldCells.{value_old_cell}
use Rattle.recalc.proofs.Places.{alone_of, some_stamp}
use Rattle.recalc.specs.Carrying.{AreHad, IsEditOf, IsOldBehind, IsOldCell, IsOldOne, IsOldSource, IsUntouched, cell_was}
use Rattle.recalc.specs.Filling.{IsFrom, IsIdle}
use Rattle.recalc.specs.Kept.{IsClean, IsInOrder, IsRight, IsSourceOf, CacheState, source_index, stamp_of, cached_value, version_of}
use Rattle.recalc.specs.declared.stamps.Stamp.{Stamp}

-- FILLED: kept are the cells that were clean and that the edit left, where all are kept on which they lean
pub record IsFilled (old new : App) (before after : CacheState) : Type 0 where
  pub kept : (k : ℕ) (e : Stamp) → stamp_of after k ≡ Some e → IsFrom old new before after k e
  pub had : (k : ℕ) (e : Stamp) → stamp_of after k ≡ Some e → AreHad new after k
  pub unkept : (k : ℕ) → stamp_of after k ≡ None → IsIdle new after k
  pub whole : (j k : ℕ) → IsOldCell old new j k → IsClean old before j → AreHad new after k → IsSome (stamp_of after k)
  pub emptied : after.emptied ≡ before.emptied
  pub last : after.last ≡ before.last
  pub zero : (p : ℕ) → slice_index after.versions p ≡ 0
  pub few : length new.cells ≤ 2000
  pub stamps : length after.stamps ≡ length new.cells
  pub values : length after.values.cells ≡ length new.cells
  pub places : (s : Source) → IsSourceOf new.names s → source_index s < length after.versions

some_of : (o : Option Stamp) → IsSome o → (e : Stamp) × (o ≡ Some e)
some_of (Some e) h = (e, refl)
some_of None h = absurd cc

one_info : (o : Option CellInfo) (x y : CellInfo) → o ≡ Some x → o ≡ Some y → x ≡ y
one_info o x y p q = let both : Some x ≡ Some y = sym p ∙ q in cc

one_place : (o : Option ℕ) (x y : ℕ) → o ≡ Some x → o ≡ Some y → x ≡ y
one_place o x y p q = let both : Some x ≡ Some y = sym p ∙ q in cc

not_both : (b : Bool) → b ≡ true → b ≡ false → ⊥
not_both b p q = let both : true ≡ false = sym p ∙ q in absurd cc

-- what is behind a source that was one is what was behind that
behind_there : (old new : App) (x r : Source) (d : ℕ) → IsOldSource old new x r → cell_behind new.names x ≡ Some d → (c : ℕ) × (cell_behind old.names r ≡ Some c) × IsOldOne old new d c
behind_there old new (source.Cell a) (source.Cell b) d o f = (b, refl, subst (λ n. IsOldOne old new n b) (let h : Some a ≡ Some d = f in cc) o)
behind_there old new (source.Input a) (source.Input b) d o f = by (default_cell old.names b) refl (subst (λ n. IsOldBehind old new n (default_cell old.names b)) f o.1)
  where
    by : (n : Option ℕ) → default_cell old.names b ≡ n → IsOldBehind old new (Some d) n → (c : ℕ) × (default_cell old.names b ≡ Some c) × IsOldOne old new d c
    by (Some c) at h = (c, at, h)
    by None at h = absurd h
behind_there old new (source.Chosen a) (source.Chosen b) d o f = by (items_cell old.names b) refl (subst (λ n. IsOldBehind old new n (items_cell old.names b)) f o.1)
  where
    by : (n : Option ℕ) → items_cell old.names b ≡ n → IsOldBehind old new (Some d) n → (c : ℕ) × (items_cell old.names b ≡ Some c) × IsOldOne old new d c
    by (Some c) at h = (c, at, h)
    by None at h = absurd h
behind_there old new (source.Global a) (source.Global b) d o f = absurd cc
behind_there old new (source.Context a) (source.Context b) d o f = absurd cc
behind_there old new (source.Gathered a) (source.Gathered b) d o f = absurd cc
behind_there old new (source.Table a) (source.Table b) d o f = absurd cc
behind_there old new source.Today source.Today d o f = absurd cc
behind_there old new x r d o f = absurd o

needs_then : (a : App) (k d e : ℕ) → Needs a k d → Needs a d e → Needs a k e
needs_then a k d e n (itself x) = n
needs_then a k d e n (further x y z c m there alone leans) = further k y e c (needs_then a k d y n m) there alone leans

module _ (old new : App) (before after : CacheState) (f : IsFilled old new before after) where
  current : (k n : ℕ) (s : Source) → version_of after s ≤ n
  current k n s = let zero = f.zero (source_index s) in omega (arith, zero)

  pub filled_clean_of : (k : ℕ) → IsSome (stamp_of after k) → IsClean new after k
  filled_clean_of k h = let e = some_of (stamp_of after k) h in (e.0, e.1, λ s plain z. current k (e.0).checked s)

  bare_of : (k : ℕ) → is_alone new.cells k ≡ false → cached_value after k ≡ blank
  bare_of k aside = by (stamp_of after k) refl
    where
      by : (o : Option Stamp) → stamp_of after k ≡ o → cached_value after k ≡ blank
      by None at = (f.unkept k at).bare aside
      by (Some e) at = let from = f.kept k e at in absurd (not_both (is_alone new.cells k) (alone_of new.cells k from.cell.after from.cell.here from.cell.left.still) aside)

  fits_of : IsInOrder old before → (k : ℕ) (i : CellInfo) → slice_get new.cells k ≡ Some i → fits_in (cached_value after k) (shape i.ty) ≡ true
  fits_of o k i there = by (stamp_of after k) refl
    where
      by : (x : Option Stamp) → stamp_of after k ≡ x → fits_in (cached_value after k) (shape i.ty) ≡ true
      by None at = (f.unkept k at).fits i there
      by (Some e) at =
          let from = f.kept k e at in
          let same : from.cell.after ≡ i = one_info (slice_get new.cells k) from.cell.after i from.cell.here there in
          subst (λ (c : CellInfo). fits_in (cached_value after k) (shape c.ty) ≡ true) same
          (subst (λ t. fits_in (cached_value after k) t ≡ true) (sym from.cell.ty) (subst (λ d. fits_in d (shape from.cell.before.ty) ≡ true) (sym from.value) (o.fits from.was from.cell.before from.cell.there)))

  low_moved : IsInOrder old before → (k : ℕ) (e : Stamp) → stamp_of after k ≡ Some e → e.moved ≤ after.last
  low_moved o k e at = let from = f.kept k e at in let low = o.low.moved from.was from.stamp from.there in let moved = from.moved in let last = f.last in omega (arith, low, moved, last)

  pub filled_order : IsInOrder old before → IsInOrder new after
  filled_order o = record {
    few = f.few;
    stamps = f.stamps;
    values = f.values;
    places = f.places;
    fits = fits_of o;
    bare = bare_of;
    alone = λ k e at. let from = f.kept k e at in alone_of new.cells k from.cell.after from.cell.here from.cell.left.still;
    leans = λ k d e at now leans.
        let g = some_of (stamp_of after d) (f.had k e at d leans) in
        ((g.0, g.1, λ s plain z. current d (g.0).checked s), (g.0, g.1, let low = low_moved o d g.0 g.1 in let checked = (f.kept k e at).checked in omega (arith, low, checked)));
    low = record {
      versions = λ p. let zero = f.zero p in omega (arith, zero);
      checked = λ k e at. let checked = (f.kept k e at).checked in omega (arith, checked);
      moved = low_moved o;
    };
  }

  -- all that is needed by a cell that is kept is kept
  needed_had : (k d : ℕ) → Needs new k d → is_alone new.cells d ≡ true → IsSome (stamp_of after k) → IsSome (stamp_of after d)
  needed_had k d (itself x) alone h = h
  needed_had k d (further x y z c n there own leans) alone h =
      let e = some_of (stamp_of after y) (needed_had k y n (alone_of new.cells y c there own) h) in
      f.had y e.0 e.1 d (c, there, leans, alone)

  pub filled_from : (k : ℕ) → IsClean new after k → (j : ℕ) × IsOldCell old new j k × IsUntouched old new k × IsClean old before j
  filled_from k clean =
      let from = f.kept k clean.0 clean.1 in (
        from.was,
        from.cell,
        (λ d need alone. let e = some_of (stamp_of after d) (needed_had k d need alone (some_stamp (stamp_of after k) clean.0 clean.1)) in let back = f.kept d e.0 e.1 in (back.was, back.cell)),
        from.clean,
      )

  -- what is left is kept, by the order of the edited app
  left_kept : IsSoundApp new → IsInOrder old before → (k : ℕ) → k < length new.cells → (j : ℕ) → IsOldCell old new j k → IsUntouched old new k → IsClean old before j → IsSome (stamp_of after k)
  left_kept sound o = by_order (length new.cells) (edges_of new.names new.cells) new.order sound.order
      (λ k. (j : ℕ) → IsOldCell old new j k → IsUntouched old new k → IsClean old before j → IsSome (stamp_of after k))
      (λ k lt step j cell untouched clean. f.whole j k cell clean (λ d leans.
      let info : leans.0 ≡ cell.after = one_info (slice_get new.cells k) leans.0 cell.after leans.1 cell.here in
      let on : LeansOn new.names cell.after d = subst (λ (i : CellInfo). LeansOn new.names i d) info leans.2 in
      let need : Needs new k d = further k k d cell.after (itself k) cell.here cell.left.still on in
      let left = untouched d need leans.3 in
      let was = cell.left.reads on.0 on.1 in
      let back = behind_there old new on.0 was.0 d was.2 on.2 in
      let same : back.0 ≡ left.0 = one_place (cell_was old new d) back.0 left.0 back.2.0 left.1.was in
      let below = o.leans j back.0 clean.0 clean.1 clean.2 (cell.before, cell.there, (was.0, was.1, back.1), sym back.2.1 ∙ leans.3) in
      step d (leaning_edge new.names new.cells k cell.after d cell.here on) left.0 left.1 (λ e more. untouched e (needs_then new k d e need more)) (subst (IsClean old before) same below.0)))

  pub filled_to : IsSoundApp new → IsInOrder old before → (k : ℕ) → (j : ℕ) × IsOldCell old new j k × IsUntouched old new k × IsClean old before j → IsClean new after k
  filled_to sound o k h = filled_clean_of k (left_kept sound o k (slice_get_within new.cells k (h.1).after (h.1).here) h.0 h.1 h.2 h.3)

  pub filled_right : IsSoundApp old → IsSoundApp new → IsEditOf old new → (s : SessionState) → ((j k : ℕ) → collection_was old.names new.names k ≡ Some j → j < length s.collections) → (tables : ToldRows) (m : ℕ) →
      IsRight (present old s tables m) [] before → IsRight (present new (carried old.names new.names s) tables m) [] after
  filled_right was sound edit s long tables m r = record {
    order = filled_order r.order;
    valid = λ k e i at there none unmoved.
        let from = f.kept k e at in
        let same : from.cell.after ≡ i = one_info (slice_get new.cells k) from.cell.after i from.cell.here there in
        let had : IsCellValue (present old s tables m) (cached_value before) from.cell.before (cached_value before from.was) =
        r.valid from.was (from.clean).0 from.cell.before (from.clean).1 from.cell.there (λ x l n. absurd l) (clean_unmoved old before r.order from.was from.cell.before from.cell.there from.clean) in
        subst (λ (c : CellInfo). IsCellValue (present new (carried old.names new.names s) tables m) (cached_value after) c (cached_value after k)) same
        (subst (IsCellValue (present new (carried old.names new.names s) tables m) (cached_value after) from.cell.after) (sym from.value)
        (value_old_cell old new was sound edit s long tables m (cached_value before) (cached_value after) from.was k from.cell (cached_value before from.was)
        (λ d c leans one. by k e at from.cell.after from.cell.here d c leans one (is_alone new.cells d) refl) had));
  }
    where
      by : (k : ℕ) (e : Stamp) → stamp_of after k ≡ Some e → (i : CellInfo) → slice_get new.cells k ≡ Some i → (d c : ℕ) → LeansOn new.names i d → IsOldOne old new d c → (b : Bool) → is_alone new.cells d ≡ b → cached_value after d ≡ cached_value before c
      by k e at i here d c leans one true alone =
          let g = some_of (stamp_of after d) (f.had k e at d (i, here, leans, alone)) in
          let back = f.kept d g.0 g.1 in
          let same : back.was ≡ c = one_place (cell_was old new d) back.was c back.cell.was one.0 in
          back.value ∙ ap (cached_value before) same
      by k e at i here d c leans one false aside = bare_of d aside ∙ sym (r.order.bare c (sym one.1 ∙ aside))
