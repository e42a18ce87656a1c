-- One cell is brought up to date.
use Rattle.std.proofs.Common.{◌≡◌, ◌≢◌, ◌⊎◌, ℕ, ◌<◌, ◌≤◌, List, [], length, true, false, Option, Some, None, refl, sym, subst, ap, ◌∙◌, arith, inl, inr}
use Rattle.std.proofs.lemmas.Bool.{cases_eq}
use Rattle.std.specs.List.{slice_get}
use Rattle.std.specs.Prelude.{slice_index_or}
use Rattle.fx_types.specs.TypeView.{shape}
use Rattle.fx_value.specs.Fits.{fits_in}
use Rattle.recalc.proofs.Kept.{moved}
use Rattle.recalc.specs.Asking.{ToldRows}
use Rattle.recalc.specs.Reading.{cell_value}
use Rattle.recalc.specs.Values.{CellValues}
use Rattle.recalc.specs.app_cells.Leaning.{LeansOn}
use Rattle.recalc.specs.app_cells.declared.app.App.{App}
use Rattle.recalc.specs.app_cells.declared.app.CellInfo.{CellInfo}
use Rattle.recalc.specs.app_semantics.Fresh.{IsCellValue}
use Rattle.recalc.specs.app_semantics.Needed.{is_alone}
use Rattle.recalc.specs.app_semantics.Present.{present}
use Rattle.recalc.specs.app_semantics.Sound.{IsSoundApp}
use Rattle.session_state.specs.Sessions.{SessionState}
use Rattle.recalc.proofs.Agreeing.{not_itself}
use Rattle.recalc.specs.Kept.{IsClean, IsInOrder, IsRight, IsUnmoved, CacheState, Leans, stamp_of, cached_value}
use Rattle.recalc.specs.declared.stamps.Stamp.{Stamp}

-- a cache with another stamp and value of one cell
abbrev pub with_one : CacheState → ℕ → List (Option Stamp) → CellValues → CacheState
with_one c now stamps values = record c { last = now; stamps = stamps; values = values }

-- the cell has this stamp, by which it moved as before with the same value or moves after all that was; others are as before
pub record IsSet (c : CacheState) (now : ℕ) (stamps : List (Option Stamp)) (values : CellValues) (k : ℕ) (e : Stamp) : Type 0 where
  pub here : slice_index_or stamps k None ≡ Some e
  pub there : (d : ℕ) → d ≢ k → slice_index_or stamps d None ≡ stamp_of c d
  pub others : (d : ℕ) → d ≢ k → cell_value values.cells d ≡ cached_value c d
  pub cells : length stamps ≡ length c.stamps
  pub long : length values.cells ≡ length c.values.cells
  pub later : c.last ≤ now
  pub checked : e.checked ≡ now
  pub low : e.moved ≤ now
  pub moved : ((f : Stamp) × (stamp_of c k ≡ Some f) × (cell_value values.cells k ≡ cached_value c k) × (e.moved ≡ f.moved)) ⊎ (((f : Stamp) → stamp_of c k ≡ Some f → cached_value c k ≡ cell_value values.cells k → ⊥) × (c.last < e.moved))

one_stamp : (o : Option Stamp) (e f : Stamp) → o ≡ Some e → o ≡ Some f → e ≡ f
one_stamp o e f p q = let both : Some e ≡ Some f = sym p ∙ q in cc

module _ (a : App) (c : CacheState) (now : ℕ) (stamps : List (Option Stamp)) (values : CellValues) (k : ℕ) (e : Stamp) (i : CellInfo)
    (sound : IsSoundApp a) (at : slice_get a.cells k ≡ Some i) (alone : is_alone a.cells k ≡ true) (unclean : IsClean a c k → ⊥)
    (parts : (d : ℕ) → Leans a k d → IsClean a c d) (fit : fits_in (cell_value values.cells k) (shape i.ty) ≡ true) (h : IsSet c now stamps values k e) where
  new : CacheState
  new = with_one c now stamps values

  same_info : (j : ℕ) (i' : CellInfo) → j ≡ k → slice_get a.cells j ≡ Some i' → i ≡ i'
  same_info j i' q there = let both : Some i ≡ Some i' = sym at ∙ subst (λ n. slice_get a.cells n ≡ Some i') q there in cc

  mine : (j : ℕ) (f : Stamp) → j ≡ k → slice_index_or stamps j None ≡ Some f → e ≡ f
  mine j f q there = one_stamp (slice_index_or stamps k None) e f h.here (subst (λ n. slice_index_or stamps n None ≡ Some f) q there)

  was : (j : ℕ) (f : Stamp) → j ≢ k → slice_index_or stamps j None ≡ Some f → stamp_of c j ≡ Some f
  was j f n there = sym (h.there j n) ∙ there

  apart : (d : ℕ) → Leans a k d → d ≢ k
  apart d leans q =
      let same : i ≡ leans.0 = same_info k leans.0 refl leans.1 in
      not_itself a k i sound at (subst (λ (x : CellInfo). LeansOn a.names x k) (sym same) (subst (LeansOn a.names leans.0) q leans.2))

  pub stepped_order : IsInOrder a c → IsInOrder a (with_one c now stamps values)
  stepped_order o = record {
    few = o.few;
    stamps = h.cells ∙ o.stamps;
    values = h.long ∙ o.values;
    places = o.places;
    fits = λ j i' there. elim (cases_eq j k) [
      | inl q ↦
          let same : i ≡ i' = same_info j i' q there in
          subst (λ n. fits_in (cell_value values.cells n) (shape i'.ty) ≡ true) (sym q) (subst (λ (x : CellInfo). fits_in (cell_value values.cells k) (shape x.ty) ≡ true) same fit)
      | inr n ↦ subst (λ d. fits_in d (shape i'.ty) ≡ true) (sym (h.others j n)) (o.fits j i' there)
    ];
    bare = λ j aside. elim (cases_eq j k) [
      | inl q ↦ let both : true ≡ false = sym alone ∙ subst (λ n. is_alone a.cells n ≡ false) q aside in cc
      | inr n ↦ h.others j n ∙ o.bare j aside
    ];
    alone = λ j f there. elim (cases_eq j k) [
      | inl q ↦ subst (λ n. is_alone a.cells n ≡ true) (sym q) alone
      | inr n ↦ o.alone j f (was j f n there)
    ];
    leans = λ j d f there current leans. elim (cases_eq j k) [
      | inl q ↦
          let on : Leans a k d = subst (λ n. Leans a n d) q leans in
          let other : d ≢ k = apart d on in
          let clean = parts d on in
          let same : e ≡ f = mine j f q there in
          let checked : f.checked ≡ now = ap (λ (x : Stamp). x.checked) (sym same) ∙ h.checked in
          let low : (clean.0).moved ≤ c.last = o.low.moved d clean.0 clean.1 in
          let later = h.later in
          ((clean.0, h.there d other ∙ clean.1, clean.2), (clean.0, h.there d other ∙ clean.1, omega (arith, checked, low, later)))
      | inr n ↦
          let old = o.leans j d f (was j f n there) current leans in
          let other : d ≢ k = λ q. unclean (subst (IsClean a c) q old.0) in
          ((old.0.0, h.there d other ∙ old.0.1, old.0.2), (old.1.0, h.there d other ∙ old.1.1, old.1.2))
    ];
    low = record {
      versions = λ p. let under = o.low.versions p in let later = h.later in omega (arith, under, later);
      checked = λ j f there. elim (cases_eq j k) [
        | inl q ↦ let is : f.checked ≡ now = ap (λ (x : Stamp). x.checked) (sym (mine j f q there)) ∙ h.checked in omega (arith, is)
        | inr n ↦ let under = o.low.checked j f (was j f n there) in let later = h.later in omega (arith, under, later)
      ];
      moved = λ j f there. elim (cases_eq j k) [
        | inl q ↦ let is : f.moved ≡ e.moved = ap (λ (x : Stamp). x.moved) (sym (mine j f q there)) in let low = h.low in omega (arith, is, low)
        | inr n ↦ let under = o.low.moved j f (was j f n there) in let later = h.later in omega (arith, under, later)
      ];
    };
  }

  -- a cell that another one finds settled at a number of before was so, with the same value
  behind : (d n : ℕ) (g : Stamp) → n ≤ c.last → d ≡ k → slice_index_or stamps d None ≡ Some g → g.moved ≤ n → (f : Stamp) × (stamp_of c d ≡ Some f) × (f.moved ≤ n) × (cell_value values.cells d ≡ cached_value c d)
  behind d n g low q there le =
      let is : g.moved ≡ e.moved = ap (λ (x : Stamp). x.moved) (sym (mine d g q there)) in
      elim h.moved [
        | inl old ↦
            let same = old.3 in
            (old.0, subst (λ (m : ℕ). stamp_of c m ≡ Some old.0) (sym q) old.1, omega (arith, is, le, same), subst (λ m. cell_value values.cells m ≡ cached_value c m) (sym q) old.2)
        | inr late ↦ let l = late.1 in absurd (omega (arith, is, le, l, low))
      ]

  pub stepped_right : (s : SessionState) (tables : ToldRows) (m : ℕ) → IsRight (present a s tables m) [] c → IsCellValue (present a s tables m) (cached_value c) i (cell_value values.cells k) →
      IsRight (present a s tables m) [] (with_one c now stamps values)
  stepped_right s tables m r value = record {
    order = stepped_order r.order;
    valid = λ j f i' there is none unmoved. elim (cases_eq j k) [
      | inl q ↦
          let same : i ≡ i' = same_info j i' q is in
          subst (λ n. IsCellValue (present a s tables m) (cell_value values.cells) i' (cell_value values.cells n)) (sym q)
          (subst (λ (x : CellInfo). IsCellValue (present a s tables m) (cell_value values.cells) x (cell_value values.cells k)) same
          (moved (present a s tables m) (cached_value c) (cell_value values.cells) i (cell_value values.cells k)
          (λ d leans. sym (h.others d (λ p. not_itself a k i sound at (subst (LeansOn a.names i) p leans)))) value))
      | inr n ↦
          let low : f.checked ≤ c.last = r.order.low.checked j f (was j f n there) in
          let before : IsUnmoved a c i' f.checked = record {
            sources = unmoved.sources;
            cells = λ d leans own.
                let g = unmoved.cells d leans own in
                elim (cases_eq d k) [
                  | inl p ↦ let old = behind d f.checked g.0 low p g.1 g.2 in (old.0, old.1, old.2)
                  | inr o ↦ (g.0, sym (h.there d o) ∙ g.1, g.2)
                ];
          } in
          let old : IsCellValue (present a s tables m) (cached_value c) i' (cached_value c j) = r.valid j f i' (was j f n there) is none before in
          subst (IsCellValue (present a s tables m) (cell_value values.cells) i') (sym (h.others j n))
          (moved (present a s tables m) (cached_value c) (cell_value values.cells) i' (cached_value c j)
          (λ d leans. elim (cases_eq d k) [
            | inl p ↦
                let g = unmoved.cells d leans (subst (λ x. is_alone a.cells x ≡ true) (sym p) alone) in
                sym (behind d f.checked g.0 low p g.1 g.2).3
            | inr o ↦ sym (h.others d o)
          ]) old)
    ];
  }
