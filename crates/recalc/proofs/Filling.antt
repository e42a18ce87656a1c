-- A cache is filled with what an edit left, one cell after another by the order of the edited app.
use Rattle.std.proofs.Common.{◌≡◌, ◌≢◌, ◌⊎◌, ℕ, zero, suc, ◌+◌, ◌<◌, ◌≤◌, List, [], ◌∷◌, length, get_or, set, true, Option, Some, None, IsSome, refl, sym, subst, ap, ◌∙◌, arith, inl, inr}
use Rattle.std.proofs.lemmas.Bool.{cases_eq}
use Rattle.std.proofs.lemmas.List.{get_or-set_other, get_or-set_same, length-set}
use Rattle.std.specs.Prelude.{option_map, slice_get, slice_index}
use Rattle.std.proofs.lemmas.Option.{slice_get_within}
use Rattle.fx_types.specs.TypeView.{shape}
use Rattle.fx_types.specs.Types.{Shape}
use Rattle.fx_types.specs.Values.{Data, blank}
use Rattle.fx_core.specs.declared.names.Collection.{Collection}
use Rattle.fx_core.specs.declared.sources.Source.TheVariants as source
use Rattle.fx_value.specs.Fits.{fits_in}
use Rattle.recalc.specs.app_cells.declared.app.App.{App}
use Rattle.recalc.specs.app_cells.declared.app.CellInfo.{CellInfo}
use Rattle.recalc.specs.app_semantics.Holding.{HoldsFitting}
use Rattle.recalc.specs.app_semantics.Sound.{IsSoundApp}
use Rattle.recalc.proofs.Filled.{IsFilled, filled_from, filled_order, filled_right, filled_to}
use Rattle.recalc.specs.Filling.{IsFilling, IsFrom, IsIdle}
use Rattle.recalc.proofs.Marking.{at, leans_earlier, once}
use Rattle.session_state.proofs.Moving.{apart, was as was_of}
use Rattle.session_state.specs.Carrying.{collection_was, place_of_collection}
use Rattle.session_state.specs.Sessions.{SessionState}
use Rattle.recalc.specs.Outcomes.{IsRestarted, let_out}
use Rattle.recalc.specs.Carrying.{AreHad, IsBegunAnew, IsCarried, IsCarriedAt, IsEditOf, IsOldCell, cell_was, place_of_cell, received, taken_from}
use Rattle.recalc.specs.Kept.{IsClean, IsInOrder, IsRoomFor, CacheState, Leans, source_index, stamp_of, cached_value}
use Rattle.recalc.specs.declared.stamps.Stamp.{Stamp}

-- no two cells of the edited app were one
abbrev pub AreApart : App → App → Type 0
AreApart old new = (j k i : ℕ) → cell_was old new j ≡ Some i → cell_was old new k ≡ Some i → j ≡ k

-- the value of a cell that isn't wanted any more
taken_order : (a : App) (c : CacheState) (j : ℕ) → IsInOrder a c → IsInOrder a (taken_from c j)
taken_order a c j o = record {
  few = o.few;
  stamps = o.stamps;
  values = length-set c.values.cells j blank ∙ o.values;
  places = o.places;
  fits = λ k i there. elim (cases_eq k j) [
    | inl e ↦ subst (λ d. fits_in d (shape i.ty) ≡ true) (sym (blank_at k e)) refl
    | inr other ↦ subst (λ d. fits_in d (shape i.ty) ≡ true) (sym (get_or-set_other c.values.cells j k blank blank other)) (o.fits k i there)
  ];
  bare = λ k aside. elim (cases_eq k j) [
    | inl e ↦ blank_at k e
    | inr other ↦ get_or-set_other c.values.cells j k blank blank other ∙ o.bare k aside
  ];
  alone = o.alone;
  leans = o.leans;
  low = record { versions = o.low.versions; checked = o.low.checked; moved = o.low.moved };
}
  where
    set_blank : (xs : List Data) (k : ℕ) → get_or (set xs k blank) k blank ≡ blank
    set_blank [] k = refl
    set_blank (x ∷ xs) zero = refl
    set_blank (x ∷ xs) (suc k) = set_blank xs k

    blank_at : (k : ℕ) → k ≡ j → cached_value (taken_from c j) k ≡ blank
    blank_at k e = subst (λ n. cached_value (taken_from c j) n ≡ blank) (sym e) (set_blank c.values.cells j)

some_is : (o : Option Stamp) (e : Stamp) → o ≡ Some e → IsSome o
some_is o e h = subst IsSome (sym h) refl

-- all cells of the order were seen
pub filling_end : (old new : App) (before from after : CacheState) (i : ℕ) → IsSoundApp new → length new.order ≤ i → IsFilling old new before from i after → IsFilled old new before after
filling_end old new before from after i sound end f = record {
  kept = f.kept;
  had = f.had;
  unkept = f.unkept;
  whole = λ j k cell clean had.
      let there = (sound.order.all k).1 (slice_get_within new.cells k cell.after cell.here) in
      let low = there.1 in
      let place : at new there.0 ≡ k = get_or_default_at new.order there.0 k there.1 ∙ there.2 in
      subst (λ n. IsSome (stamp_of after n)) place
      (f.whole there.0 j (omega (arith, low, end)) there.1 (subst (IsOldCell old new j) (sym place) cell) clean (subst (AreHad new after) (sym place) had));
  emptied = f.emptied;
  last = f.last;
  zero = f.zero;
  few = f.few;
  stamps = f.stamps;
  values = f.values;
  places = f.places;
}
  where
    get_or_default_at : (xs : List ℕ) (i d : ℕ) → i < length xs → get_or xs i 0 ≡ get_or xs i d
    get_or_default_at [] i d h = absurd (omega (arith, h))
    get_or_default_at (x ∷ xs) zero d h = refl
    get_or_default_at (x ∷ xs) (suc i) d h = get_or_default_at xs i d (omega (arith, h))

-- a cell that no cell was, or that wasn't carried, is passed
pub filling_passed : (old new : App) (before from after : CacheState) (i : ℕ) → i < length new.order → ((j : ℕ) → IsOldCell old new j (at new i) → IsClean old before j → AreHad new after (at new i) → ⊥) → IsFilling old new before from i after →
    IsFilling old new before from (i + 1) after
filling_passed old new before from after i within none f = record {
  kept = f.kept;
  had = f.had;
  unkept = f.unkept;
  whole = λ p j low inside cell clean had. elim (cases_eq p i) [
    | inl e ↦ absurd (none j (subst (λ n. IsOldCell old new j (at new n)) e cell) clean (subst (λ n. AreHad new after (at new n)) e had))
    | inr other ↦ f.whole p j (omega (arith, low, other)) inside cell clean had
  ];
  rest = λ p low inside. f.rest p (omega (arith, low)) inside;
  emptied = f.emptied;
  last = f.last;
  day = f.day;
  zero = f.zero;
  few = f.few;
  stamps = f.stamps;
  values = f.values;
  places = f.places;
  same = f.same;
  left = λ p j low inside was. f.left p j (omega (arith, low)) inside was;
  order = f.order;
}

module _ (old new : App) (before from after : CacheState) (i j : ℕ) (e : Stamp) (sound : IsSoundApp new) (apart : AreApart old new) (within : i < length new.order) (f : IsFilling old new before from i after) (cell : IsOldCell old new j (at new i)) (stamp : stamp_of from j ≡ Some e) (clean : IsClean old from j) (all : AreHad new after (at new i)) where
  abbrev n : ℕ
  n = at new i

  abbrev now : CacheState
  now = received after n (cached_value from j) e.moved

  abbrev mark : Stamp
  mark = record { checked = after.last; moved = e.moved }

  inside_n : n < length new.cells
  inside_n = slice_get_within new.cells n cell.after cell.here

  stamp_here : stamp_of now n ≡ Some mark
  stamp_here = get_or-set_same after.stamps n (Some mark) None (let l = inside_n in let s = f.stamps in omega (arith, l, s))

  stamp_there : (k : ℕ) → k ≢ n → stamp_of now k ≡ stamp_of after k
  stamp_there k other = get_or-set_other after.stamps n k (Some mark) None other

  value_here : cached_value now n ≡ cached_value from j
  value_here = get_or-set_same after.values.cells n (cached_value from j) blank (let l = inside_n in let s = f.values in omega (arith, l, s))

  value_there : (k : ℕ) → k ≢ n → cached_value now k ≡ cached_value after k
  value_there k other = get_or-set_other after.values.cells n k (cached_value from j) blank other

  more : (k : ℕ) → IsSome (stamp_of after k) → IsSome (stamp_of now k)
  more k h = elim (cases_eq k n) [
    | inl q ↦ some_is (stamp_of now k) mark (subst (λ m. stamp_of now m ≡ Some mark) (sym q) stamp_here)
    | inr other ↦ subst IsSome (sym (stamp_there k other)) h
  ]

  other_place : (p : ℕ) → p ≢ i → p < length new.order → at new p ≢ n
  other_place p other inside q = elim before_or [
    | inl low ↦ once new p i sound low within q
    | inr high ↦ once new i p sound high inside (sym q)
  ]
    where
      before_or : (p < i) ⊎ (i < p)
      before_or = elim (le_or p i) [ inl l ↦ inl (omega (arith, l, other)) | inr l ↦ inr l ]
        where
          le_or : (a b : ℕ) → (a ≤ b) ⊎ (b < a)
          le_or zero b = inl (omega arith)
          le_or (suc a) zero = inr (omega arith)
          le_or (suc a) (suc b) = elim (le_or a b) [ inl l ↦ inl (omega (arith, l)) | inr l ↦ inr (omega (arith, l)) ]

  clean_before : IsClean old before j
  clean_before = (clean.0, ap (λ (xs : List (Option Stamp)). get_or xs j None) (sym f.same.0) ∙ clean.1, λ s plain z. subst (λ (vs : List ℕ). slice_index vs (source_index s) ≤ (clean.0).checked) f.same.1 (clean.2 s plain z))

  from_here : (g : Stamp) → stamp_of now n ≡ Some g → IsFrom old new before now n g
  from_here g h =
      let is : mark ≡ g = (let both : Some mark ≡ Some g = sym stamp_here ∙ h in cc) in
      record {
        was = j;
        stamp = e;
        cell = cell;
        there = ap (λ (xs : List (Option Stamp)). get_or xs j None) (sym f.same.0) ∙ stamp;
        clean = clean_before;
        checked = sym (ap (λ (s : Stamp). s.checked) is);
        moved = sym (ap (λ (s : Stamp). s.moved) is);
        value = value_here ∙ f.left i j (omega arith) within cell.was;
      }

  from_there : (k : ℕ) (g : Stamp) → k ≢ n → stamp_of now k ≡ Some g → IsFrom old new before now k g
  from_there k g other h =
      let w = f.kept k g (sym (stamp_there k other) ∙ h) in
      record { was = w.was; stamp = w.stamp; cell = w.cell; there = w.there; clean = w.clean; checked = w.checked; moved = w.moved; value = value_there k other ∙ w.value }

  idle_there : (k : ℕ) → k ≢ n → IsIdle new after k → IsIdle new now k
  idle_there k other w = record { bare = λ aside. value_there k other ∙ w.bare aside; fits = λ i there. subst (λ d. fits_in d (shape i.ty) ≡ true) (sym (value_there k other)) (w.fits i there) }

  pub filling_more : IsFilling old new before (taken_from from j) (i + 1) now
  filling_more = record {
    kept = λ k g h. elim (cases_eq k n) [
      | inl q ↦ subst (λ m. IsFrom old new before now m g) (sym q) (from_here g (subst (λ m. stamp_of now m ≡ Some g) q h))
      | inr other ↦ from_there k g other h
    ];
    had = λ k g h d leans. elim (cases_eq k n) [
      | inl q ↦ more d (all d (subst (λ m. Leans new m d) q leans))
      | inr other ↦ more d (f.had k g (sym (stamp_there k other) ∙ h) d leans)
    ];
    unkept = λ k h. elim (cases_eq k n) [
      | inl q ↦ (let both : Some mark ≡ None = sym stamp_here ∙ subst (λ m. stamp_of now m ≡ None) q h in absurd cc)
      | inr other ↦ idle_there k other (f.unkept k (sym (stamp_there k other) ∙ h))
    ];
    whole = λ p c low inside was clear had. elim (cases_eq p i) [
      | inl q ↦ some_is (stamp_of now (at new p)) mark (subst (λ m. stamp_of now (at new m) ≡ Some mark) (sym q) stamp_here)
      | inr other ↦ more (at new p) (f.whole p c (omega (arith, low, other)) inside was clear (λ d leans.
          let b = leans_earlier new p (at new p) d sound inside refl leans in
          let far : d ≢ n = λ same. once new b.0 i sound (let l = b.1 in omega (arith, l, low, other)) within (b.2 ∙ same) in
          subst IsSome (stamp_there d far) (had d leans)))
    ];
    rest = λ p low inside. stamp_there (at new p) (other_place p (λ q. omega (arith, low, q)) inside) ∙ f.rest p (omega (arith, low)) inside;
    emptied = f.emptied;
    last = f.last;
    day = f.day;
    zero = f.zero;
    few = f.few;
    stamps = length-set after.stamps n (Some mark) ∙ f.stamps;
    values = length-set after.values.cells n (cached_value from j) ∙ f.values;
    places = f.places;
    same = f.same;
    left = λ p c low inside was.
        let far : c ≢ j = λ same. other_place p (λ q. omega (arith, low, q)) inside (apart (at new p) n j (was ∙ ap Some same) cell.was) in
        get_or-set_other from.values.cells j c blank blank far ∙ f.left p c (omega (arith, low)) inside was;
    order = taken_order old from j f.order;
  }

-- in the room that was used up nothing is kept yet, which is in order for the app
pub begun_anew : (a : App) (before after : CacheState) → IsRoomFor a before.room → IsRestarted (length a.cells) before after → IsBegunAnew a before after
begun_anew a before after room h = record {
  order = record {
    few = room.few;
    stamps = h.cells;
    values = h.valued;
    places = λ s there. subst (λ n. source_index s < n) (sym h.places) (room.places s there);
    fits = λ k c at. subst (λ d. fits_in d (shape c.ty) ≡ true) (sym (h.values k)) refl;
    bare = λ k aside. h.values k;
    alone = λ k e is. (let no : None ≡ Some e = sym (h.stamps k) ∙ is in absurd cc);
    leans = λ k d e is current leans. (let no : None ≡ Some e = sym (h.stamps k) ∙ is in absurd cc);
    low = record {
      versions = λ p. (let zero_ = h.versions p in omega (arith, zero_));
      checked = λ k e is. (let no : None ≡ Some e = sym (h.stamps k) ∙ is in absurd cc);
      moved = λ k e is. (let no : None ≡ Some e = sym (h.stamps k) ∙ is in absurd cc);
    };
  };
  empty = h.stamps;
  emptied = h.emptied;
  day = h.day;
}

-- in the room nothing is kept yet
pub filling_start : (old new : App) (before after : CacheState) → IsInOrder old before → IsRoomFor new before.room → IsRestarted (length new.cells) before after → IsFilling old new before (let_out before) 0 after
filling_start old new before after o room h = record {
  kept = λ k e is. (let no : None ≡ Some e = sym (h.stamps k) ∙ is in absurd cc);
  had = λ k e is. (let no : None ≡ Some e = sym (h.stamps k) ∙ is in absurd cc);
  unkept = λ k is. record { bare = λ aside. h.values k; fits = λ i there. subst (λ d. fits_in d (shape i.ty) ≡ true) (sym (h.values k)) refl };
  whole = λ p j low. absurd (omega (arith, low));
  rest = λ p low inside. h.stamps (at new p);
  emptied = h.emptied;
  last = h.last;
  day = h.day;
  zero = h.versions;
  few = room.few;
  stamps = h.cells;
  values = h.valued;
  places = λ s there. subst (λ n. source_index s < n) (sym h.places) (room.places s there);
  same = (refl, refl);
  left = λ p j low inside was. refl;
  order = out_order old before o;
}
  where
    out_order : (a : App) (c : CacheState) → IsInOrder a c → IsInOrder a (let_out c)
    out_order a c o = record {
      few = o.few;
      stamps = o.stamps;
      values = o.values;
      places = o.places;
      fits = o.fits;
      bare = o.bare;
      alone = o.alone;
      leans = o.leans;
      low = record { versions = o.low.versions; checked = o.low.checked; moved = o.low.moved };
    }

pub cells_apart : (old new : App) → AreApart old new
cells_apart old new = apart (λ (c : CellInfo). c.ty) (place_of_cell old) (place_of_cell new) old.cells new.cells

-- one cell more, whether it was carried or not
pub filling_on : (old new : App) (before from left after now : CacheState) (i j : ℕ) → IsSoundApp new → i < length new.order → IsOldCell old new j (at new i) → IsCarriedAt old new j (at new i) from left after now → IsFilling old new before from i after → IsFilling old new before left (i + 1) now
filling_on old new before from left after now i j sound within cell (inl h) f =
    subst (λ (c : CacheState). IsFilling old new before c (i + 1) now) (sym h.4) (subst (IsFilling old new before (taken_from from j) (i + 1)) (sym h.5)
    (filling_more old new before from after i j h.0 sound (cells_apart old new) within f cell h.1 h.2 h.3))
filling_on old new before from left after now i j sound within cell (inr h) f =
    subst (λ (c : CacheState). IsFilling old new before c (i + 1) now) (sym h.1) (subst (IsFilling old new before from (i + 1)) (sym h.2)
    (filling_passed old new before from after i within
    (λ b other clean had.
    let same : b ≡ j = (let both : Some b ≡ Some j = sym other.was ∙ cell.was in cc) in
    h.0 (subst (IsClean old from) same (back b clean)) had) f))
  where
    back : (b : ℕ) → IsClean old before b → IsClean old from b
    back b clean = (clean.0, ap (λ (xs : List (Option Stamp)). get_or xs b None) f.same.0 ∙ clean.1, λ s plain z. subst (λ (vs : List ℕ). slice_index vs (source_index s) ≤ (clean.0).checked) (sym f.same.1) (clean.2 s plain z))

-- THE END: a cache that is filled is the one that is carried
pub carried_is : (old new : App) (before after : CacheState) → IsSoundApp old → IsSoundApp new → IsEditOf old new → IsInOrder old before → after.values.day ≡ before.values.day → IsFilled old new before after → IsCarried old new before after
carried_is old new before after was sound edit o day f = record {
  emptied = f.emptied;
  last = f.last;
  day = day;
  order = filled_order old new before after f o;
  clean = λ k. (filled_from old new before after f k, filled_to old new before after f sound o k);
  moved = λ k j e g is at from.
      let w = f.kept k e at in
      let same : w.was ≡ j = (let both : Some w.was ≡ Some j = sym w.cell.was ∙ is in cc) in
      let stamp : w.stamp ≡ g = (let both : Some w.stamp ≡ Some g = sym (subst (λ n. stamp_of before n ≡ Some w.stamp) same w.there) ∙ from in cc) in
      w.moved ∙ ap (λ (s : Stamp). s.moved) stamp;
  right = λ s tables m fit r. filled_right old new before after f was sound edit s (held_within s fit) tables m r;
}
  where
    typed_collection : (o : Option Collection) (y : Collection) → o ≡ Some y → (t : Shape) × (option_map (λ (c : Collection). shape c.ty) o ≡ Some t)
    typed_collection o y e = (shape y.ty, ap (option_map (λ (c : Collection). shape c.ty)) e)

    held_within : (s : SessionState) → HoldsFitting old.names s → (j k : ℕ) → collection_was old.names new.names k ≡ Some j → j < length s.collections
    held_within s fit j k e =
        let w = was_of (λ (c : Collection). c.ty) (place_of_collection old.names) (place_of_collection new.names) old.names.collections new.names.collections k j e in
        let t = typed_collection (slice_get old.names.collections j) w.old w.old_at in
        fit.sources_held (source.Gathered j) t.0 tt t.1
