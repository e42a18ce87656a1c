-- What is set where a cell is evaluated, or found to be as before.
use Rattle.std.proofs.Common.{◌≡◌, ℕ, ◌+◌, ◌<◌, ◌≤◌, List, [], length, length-set, set, true, Option, Some, None, IsSome, refl, sym, subst, ap, ◌∙◌, arith, inl, inr}
use Rattle.std.proofs.lemmas.Bool.{cases_eq}
use Rattle.std.proofs.lemmas.List.{get_or-set_other, get_or-set_same}
use Rattle.std.proofs.lemmas.Option.{slice_get_within}
use Rattle.std.specs.List.{slice_get}
use Rattle.std.specs.Prelude.{slice_index_or}
use Rattle.fx_types.specs.TypeView.{shape}
use Rattle.fx_types.specs.Values.{Data, blank}
use Rattle.fx_value.specs.Fits.{fits_in}
use Rattle.recalc.proofs.Asked.{heard_before}
use Rattle.recalc.specs.Asking.{HasRead, IsHeardOf, Keeping, ToldRows}
use Rattle.recalc.specs.Reading.{cell_value}
use Rattle.recalc.specs.Values.{CellValues}
use Rattle.recalc.specs.app_cells.declared.app.App.{App}
use Rattle.recalc.specs.app_cells.declared.app.CellInfo.{CellInfo}
use Rattle.recalc.specs.app_semantics.Fresh.{IsCellValue}
use Rattle.recalc.specs.app_semantics.Needed.{is_alone}
use Rattle.recalc.specs.app_semantics.Present.{present}
use Rattle.recalc.specs.app_semantics.Sound.{IsSoundApp}
use Rattle.row_keeper.specs.Tables.{Tables}
use Rattle.session_state.specs.Sessions.{SessionState}
use Rattle.recalc.proofs.Places.{one_stamp, some_stamp}
use Rattle.recalc.proofs.Stepping.{IsSet, stepped_order, stepped_right, with_one}
use Rattle.recalc.specs.Kept.{IsClean, IsInOrder, IsRight, IsUnmoved, CacheState, Leans, source_index, stamp_of, cached_value}
use Rattle.recalc.specs.Outcomes.{IsRightOver}
use Rattle.recalc.specs.Steps.{IsBrought, WasMoved, confirmed, kept_with}
use Rattle.recalc.specs.declared.stamps.Stamp.{Stamp}

-- the stamp and the values of a cell that was evaluated
abbrev pub new_stamp : CacheState → ℕ → Stamp
new_stamp c n = record { checked = c.last + 1; moved = n }

abbrev pub new_values : CacheState → ℕ → Data → CellValues
new_values c k v = record { cells = set c.values.cells k v; day = c.values.day }

pub kept_set : (a : App) (c : CacheState) (k n : ℕ) (v : Data) → IsInOrder a c → k < length a.cells → WasMoved c k v n → IsSet c (c.last + 1) (set c.stamps k (Some (new_stamp c n))) (new_values c k v) k (new_stamp c n)
kept_set a c k n v o low was =
    let stamps = o.stamps in
    let values = o.values in
    let value : cell_value (set c.values.cells k v) k ≡ v = get_or-set_same c.values.cells k v blank (omega (arith, low, values)) in
    record {
      here = get_or-set_same c.stamps k (Some (new_stamp c n)) None (omega (arith, low, stamps));
      there = λ d other. get_or-set_other c.stamps k d (Some (new_stamp c n)) None other;
      others = λ d other. get_or-set_other c.values.cells k d v blank other;
      cells = length-set c.stamps k (Some (new_stamp c n));
      long = length-set c.values.cells k v;
      later = omega arith;
      checked = refl;
      low = elim was [
        | inl same ↦ let is = same.3 in let under = o.low.moved k same.0 same.1 in omega (arith, is, under)
        | inr new ↦ let is = new.1 in omega (arith, is)
      ];
      moved = elim was [
        | inl same ↦ inl (same.0, same.1, value ∙ sym same.2, same.3)
        | inr new ↦ inr ((λ e at q. new.0 e at (q ∙ value)), (let is = new.1 in omega (arith, is)))
      ];
    }

pub confirmed_set : (a : App) (c : CacheState) (k : ℕ) (e : Stamp) → IsInOrder a c → k < length a.cells → stamp_of c k ≡ Some e →
    IsSet c c.last (set c.stamps k (Some (record { checked = c.last; moved = e.moved }))) c.values k (record { checked = c.last; moved = e.moved })
confirmed_set a c k e o low at =
    let stamps = o.stamps in
    record {
      here = get_or-set_same c.stamps k (Some (record { checked = c.last; moved = e.moved })) None (omega (arith, low, stamps));
      there = λ d other. get_or-set_other c.stamps k d (Some (record { checked = c.last; moved = e.moved })) None other;
      others = λ d other. refl;
      cells = length-set c.stamps k (Some (record { checked = c.last; moved = e.moved }));
      long = refl;
      later = omega arith;
      checked = refl;
      low = o.low.moved k e at;
      moved = inl (e, at, refl, refl);
    }

-- a cell that was set was brought up to date
pub set_brought : (a : App) (c : CacheState) (now : ℕ) (stamps : List (Option Stamp)) (values : CellValues) (k : ℕ) (e : Stamp) → IsInOrder a c → values.day ≡ c.values.day → now ≤ c.last + 1 → IsSet c now stamps values k e →
    IsBrought a k c (with_one c now stamps values)
set_brought a c now stamps values k e o day near h = record {
  clean = (e, h.here, λ s plain z. let under = o.low.versions (source_index s) in let later = h.later in let is = h.checked in omega (arith, under, later, is));
  others = h.there;
  values = h.others;
  emptied = refl;
  versions = refl;
  day = day;
  later = record {
    still = λ d some. elim (cases_eq d k) [
      | inl q ↦ subst (λ m. IsSome (slice_index_or stamps m None)) (sym q) (some_stamp (slice_index_or stamps k None) e h.here)
      | inr other ↦ subst IsSome (sym (h.there d other)) some
    ];
    moved = λ d x y at there same. elim (cases_eq d k) [
      | inl q ↦
          let mine : e ≡ y = one_stamp (slice_index_or stamps k None) e y h.here (subst (λ m. slice_index_or stamps m None ≡ Some y) q there) in
          let was : stamp_of c k ≡ Some x = subst (λ m. stamp_of c m ≡ Some x) q at in
          let value : cached_value c k ≡ cell_value values.cells k = subst (λ m. cached_value c m ≡ cell_value values.cells m) q same in
          ap (λ (z : Stamp). z.moved) (sym mine) ∙ elim h.moved [
            | inl old ↦ old.3 ∙ ap (λ (z : Stamp). z.moved) (one_stamp (stamp_of c k) old.0 x old.1 was)
            | inr new ↦ absurd (new.0 x was value)
          ]
      | inr other ↦
          let one : x ≡ y = one_stamp (stamp_of c d) x y at (sym (h.there d other) ∙ there) in
          ap (λ (z : Stamp). z.moved) (sym one)
    ];
  };
  now = (h.later, near);
}

-- what is heard of later is right as before
pub right_on : (a : App) (s : SessionState) (m : ℕ) (c : CacheState) (before after : Keeping) → HasRead before after → IsRightOver a s before.told m c → IsRightOver a s after.told m c
right_on a s m c before after read right = λ tables heard. right tables (heard_before before after read tables heard)

-- ---- one cell, whose value doesn't stand while the values of all stand on which it leans
module _ (a : App) (c : CacheState) (k : ℕ) (i : CellInfo) (sound : IsSoundApp a) (at : slice_get a.cells k ≡ Some i) (alone : is_alone a.cells k ≡ true) (unclean : IsClean a c k → ⊥)
    (parts : (d : ℕ) → Leans a k d → IsClean a c d) (o : IsInOrder a c) where
  low : k < length a.cells
  low = slice_get_within a.cells k i at

  -- it was evaluated
  module _ (n : ℕ) (v : Data) (fit : fits_in v (shape i.ty) ≡ true) (was : WasMoved c k v n) where
    placed : k < length c.values.cells
    placed = let values = o.values in let there = low in omega (arith, there, values)

    value : cell_value (set c.values.cells k v) k ≡ v
    value = get_or-set_same c.values.cells k v blank placed

    is_set : IsSet c (c.last + 1) (set c.stamps k (Some (new_stamp c n))) (new_values c k v) k (new_stamp c n)
    is_set = kept_set a c k n v o low was

    fitted : fits_in (cell_value (set c.values.cells k v) k) (shape i.ty) ≡ true
    fitted = subst (λ d. fits_in d (shape i.ty) ≡ true) (sym value) fit

    pub evaluated_order : IsInOrder a (kept_with c k v n)
    evaluated_order = stepped_order a c (c.last + 1) (set c.stamps k (Some (new_stamp c n))) (new_values c k v) k (new_stamp c n) i sound at alone unclean parts fitted is_set o

    pub evaluated_right : (s : SessionState) (m : ℕ) (before after : Keeping) → HasRead before after → IsRightOver a s before.told m c →
        ((tables : ToldRows) → IsHeardOf after.told tables → IsCellValue (present a s tables m) (cached_value c) i v) → IsRightOver a s after.told m (kept_with c k v n)
    evaluated_right s m before after read right made = λ tables heard.
        stepped_right a c (c.last + 1) (set c.stamps k (Some (new_stamp c n))) (new_values c k v) k (new_stamp c n) i sound at alone unclean parts fitted is_set s tables m
        (right tables (heard_before before after read tables heard))
        (subst (IsCellValue (present a s tables m) (cached_value c) i) (sym value) (made tables heard))

    pub evaluated_brought : IsBrought a k c (kept_with c k v n)
    evaluated_brought = set_brought a c (c.last + 1) (set c.stamps k (Some (new_stamp c n))) (new_values c k v) k (new_stamp c n) o refl (omega arith) is_set

  -- it was kept, and nothing moved that its formula names
  module _ (e : Stamp) (kept : stamp_of c k ≡ Some e) (unmoved : IsUnmoved a c i e.checked) where
    was_set : IsSet c c.last (set c.stamps k (Some (record { checked = c.last; moved = e.moved }))) c.values k (record { checked = c.last; moved = e.moved })
    was_set = confirmed_set a c k e o low kept

    pub confirmed_order : IsInOrder a (confirmed c k e.moved)
    confirmed_order =
        stepped_order a c c.last (set c.stamps k (Some (record { checked = c.last; moved = e.moved }))) c.values k (record { checked = c.last; moved = e.moved }) i sound at alone unclean parts (o.fits k i at) was_set o

    pub confirmed_right : (s : SessionState) (told : Option Tables) (m : ℕ) → IsRightOver a s told m c → IsRightOver a s told m (confirmed c k e.moved)
    confirmed_right s told m right = λ tables heard.
        let r : IsRight (present a s tables m) [] c = right tables heard in
        stepped_right a c c.last (set c.stamps k (Some (record { checked = c.last; moved = e.moved }))) c.values k (record { checked = c.last; moved = e.moved }) i sound at alone unclean parts (o.fits k i at) was_set s tables m
        r (r.valid k e i kept at (λ x l named. absurd l) unmoved)

    pub confirmed_brought : IsBrought a k c (confirmed c k e.moved)
    confirmed_brought = set_brought a c c.last (set c.stamps k (Some (record { checked = c.last; moved = e.moved }))) c.values k (record { checked = c.last; moved = e.moved }) o refl (omega arith) was_set
