-- What a source that is touched does to a cache.
use Rattle.std.proofs.Common.{◌≡◌, ◌≢◌, ℕ, ◌+◌, ◌<◌, ◌≤◌, List, ◌∷◌, length, length-set, get_or, set, false, sym, subst, ap, ◌∙◌, arith, inl, inr}
use Rattle.std.proofs.lemmas.Bool.{cases_eq}
use Rattle.std.proofs.lemmas.List.{get_or-set_other, get_or-set_same}
use Rattle.fx_core.specs.Reads.{IsAmong}
use Rattle.fx_core.specs.declared.sources.Source.{Source}
use Rattle.recalc.specs.Asking.{ToldRows}
use Rattle.recalc.specs.app_cells.Reach.{Reaches, is_cell, through}
use Rattle.recalc.specs.app_cells.declared.app.App.{App}
use Rattle.recalc.specs.app_semantics.Present.{present}
use Rattle.session_state.specs.Sessions.{SessionState}
use Rattle.recalc.proofs.Places.{one_place}
use Rattle.recalc.specs.Changes.{raised}
use Rattle.recalc.specs.Kept.{AreLow, IsClean, IsCurrent, IsInOrder, IsRight, CacheState, source_index, version_of}

module _ (a : App) (source : Source) (c : CacheState) (place : source_index source < length c.versions) where
  here : version_of (raised c source) source ≡ c.last + 1
  here = get_or-set_same c.versions (source_index source) (c.last + 1) 0 place

  there : (s : Source) → source_index s ≢ source_index source → version_of (raised c source) s ≡ version_of c s
  there s n = get_or-set_other c.versions (source_index source) (source_index s) (c.last + 1) 0 n

  up : AreLow c → (s : Source) → version_of c s ≤ version_of (raised c source) s
  up low s = elim (cases_eq (source_index s) (source_index source)) [
    | inl e ↦
        let is : version_of (raised c source) s ≡ c.last + 1 = ap (λ p. get_or (set c.versions (source_index source) (c.last + 1)) p 0) e ∙ here in
        let under : version_of c s ≤ c.last = low.versions (source_index s) in
        omega (arith, is, under)
    | inr n ↦ let is = there s n in omega (arith, is)
  ]

  capped : AreLow c → (p : ℕ) → get_or (set c.versions (source_index source) (c.last + 1)) p 0 ≤ c.last + 1
  capped low p = elim (cases_eq p (source_index source)) [
    | inl e ↦
        let is : get_or (set c.versions (source_index source) (c.last + 1)) p 0 ≡ c.last + 1 = ap (λ q. get_or (set c.versions (source_index source) (c.last + 1)) q 0) e ∙ here in
        omega (arith, is)
    | inr n ↦
        let is : get_or (set c.versions (source_index source) (c.last + 1)) p 0 ≡ get_or c.versions p 0 = get_or-set_other c.versions (source_index source) p (c.last + 1) 0 n in
        let under : get_or c.versions p 0 ≤ c.last = low.versions p in
        omega (arith, is, under)
  ]

  -- a cell that was checked before isn't current if it reaches the source
  cut : is_cell source ≡ false → (k n : ℕ) → n ≤ c.last → IsCurrent a (raised c source) k n → Reaches a k source → ⊥
  cut plain k n low current z = let h = current source plain z in let is = here in omega (arith, low, h, is)

  back : AreLow c → (k n : ℕ) → IsCurrent a (raised c source) k n → IsCurrent a c k n
  back low k n current s plain z = let h = current s plain z in let more = up low s in omega (arith, h, more)

  on : (k n : ℕ) → (Reaches a k source → ⊥) → IsCurrent a c k n → IsCurrent a (raised c source) k n
  on k n far current s plain z =
      let other : source_index s ≢ source_index source = λ e. far (subst (Reaches a k) (one_place s source e) z) in
      subst (λ v. v ≤ n) (sym (there s other)) (current s plain z)

  pub raised_order : is_cell source ≡ false → IsInOrder a c → IsInOrder a (raised c source)
  raised_order plain o = record {
    few = o.few;
    stamps = o.stamps;
    values = o.values;
    places = λ s h. let l = length-set c.versions (source_index source) (c.last + 1) in let before = o.places s h in subst (λ n. source_index s < n) (sym l) before;
    fits = o.fits;
    bare = o.bare;
    alone = o.alone;
    leans = λ k d e at current leans.
        let far : Reaches a k source → ⊥ = cut plain k e.checked (o.low.checked k e at) current in
        let was = o.leans k d e at (back o.low k e.checked current) leans in
        ((was.0.0, was.0.1, on d (was.0.0).checked (λ z. far (through k d leans.0 source leans.1 leans.2 z)) was.0.2), was.1);
    low = record {
      versions = capped o.low;
      checked = λ k e at. let h = o.low.checked k e at in omega (arith, h);
      moved = λ k e at. let h = o.low.moved k e at in omega (arith, h);
    };
  }

  pub raised_right : is_cell source ≡ false → (s : SessionState) (tables : ToldRows) (m : ℕ) (pending : List Source) → IsRight (present a s tables m) (source ∷ pending) c → IsRight (present a s tables m) pending (raised c source)
  raised_right plain s tables m pending r = record {
    order = raised_order plain r.order;
    valid = λ k e i at is none unmoved.
        r.valid k e i at is
        (λ x l named. elim l [
          | inl same ↦
              let h = unmoved.sources source plain (subst (λ y. IsAmong y i.reads) (sym same) named) in
              let v = here in
              let low = r.order.low.checked k e at in
              omega (arith, h, v, low)
          | inr other ↦ none x other named
        ])
        (record {
          sources = λ x p named. let h = unmoved.sources x p named in let more = up r.order.low x in omega (arith, h, more);
          cells = unmoved.cells;
        });
  }

  pub raised_clears : is_cell source ≡ false → IsInOrder a c → (k : ℕ) → Reaches a k source → IsClean a (raised c source) k → ⊥
  raised_clears plain o k z clean = cut plain k (clean.0).checked (o.low.checked k clean.0 clean.1) clean.2 z

  pub raised_leaves : (k : ℕ) → (Reaches a k source → ⊥) → IsClean a c k → IsClean a (raised c source) k
  raised_leaves k far clean = (clean.0, clean.1, on k (clean.0).checked far clean.2)

  pub raised_none : IsInOrder a c → (k : ℕ) → IsClean a (raised c source) k → IsClean a c k
  raised_none o k clean = (clean.0, clean.1, back o.low k (clean.0).checked clean.2)
