-- What acts at a trigger acts by its place, and sees the item of the trigger's gallery.
use Rattle.std.proofs.Common.{◌≡◌, ℕ, Bool, true, false, cond, List, length, get_or, slice_get, Option, Some, None, codes, encode_utf8_all, bytes_eq, nat_lt, refl, ap, sym, subst, ◌∙◌}
use Rattle.std.specs.Prelude.{◌==◌}
use Rattle.std.specs.List.{position, position_or_len}
use Rattle.std.proofs.lemmas.Bool.{and_parts, eqb-true, ltb-true}
use Rattle.std.proofs.lemmas.Slice.Eq.{bytes_eq-Decides}
use Rattle.std.proofs.lemmas.List.Sums.{passes_at_first}
use Rattle.std.proofs.lemmas.Option.{get_or_from_slice_get}
use Rattle.recalc.specs.app_cells.Spots.{IsPlaced, IsSpot, can_act, acts_for_gallery, acts_in, item_in, gallery_seen, item_or}
use Rattle.recalc.specs.app_cells.declared.app.App.{App}
use Rattle.recalc.specs.app_cells.declared.app.CellInfo.{CellInfo}
use Rattle.recalc.specs.app_cells.declared.cell.Spot.{Spot}
use Rattle.recalc.specs.app_cells.declared.cell.Spot.TheVariants as spot
use Rattle.recalc.specs.app_semantics.Sound.{IsSoundApp, frame_in}
use Rattle.fx_types.specs.declared.controls.Control.{Control}
use Rattle.fx_types.specs.declared.controls.Control.TheVariants as control
use Rattle.fx_core.specs.Controls.{has_property, is_behaviour}
use Rattle.fx_core.specs.Lawful.{Has}
use Rattle.fx_core.specs.declared.names.ControlName.{ControlName}
use Rattle.session_requests.specs.Triggers.{cell_at, gallery_at, trigger_gallery, is_at, is_property_named}
use Rattle.session_requests.specs.declared.trigger.Trigger.{Trigger}
use Rattle.session_requests.specs.declared.trigger.Trigger.TheVariants.{OnStart, OnVisible, OnSelect, OnChange, OnCheck, OnUncheck}

-- ---- properties that are never pure
abbrev NeverPure : List ℕ → Type 0
NeverPure name = (k : Control) → has_property k name ≡ true → is_behaviour k name ≡ true

selects : NeverPure (codes "OnSelect")
selects control.Label h = refl
selects control.Button h = refl
selects control.Gallery h = refl
selects control.TextInput h = absurd cc
selects control.Slider h = absurd cc
selects control.DatePicker h = absurd cc
selects control.Checkbox h = absurd cc

changes : NeverPure (codes "OnChange")
changes control.Label h = absurd cc
changes control.Button h = absurd cc
changes control.Gallery h = absurd cc
changes control.TextInput h = refl
changes control.Slider h = refl
changes control.DatePicker h = refl
changes control.Checkbox h = absurd cc

checks : NeverPure (codes "OnCheck")
checks control.Label h = absurd cc
checks control.Button h = absurd cc
checks control.Gallery h = absurd cc
checks control.TextInput h = absurd cc
checks control.Slider h = absurd cc
checks control.DatePicker h = absurd cc
checks control.Checkbox h = refl

unchecks : NeverPure (codes "OnUncheck")
unchecks control.Label h = absurd cc
unchecks control.Button h = absurd cc
unchecks control.Gallery h = absurd cc
unchecks control.TextInput h = absurd cc
unchecks control.Slider h = absurd cc
unchecks control.DatePicker h = absurd cc
unchecks control.Checkbox h = refl

acts_by_name : (o : Option ControlName) (p name : List ℕ) → encode_utf8_all p ≡ name → NeverPure name → Has p o → acts_in p o ≡ true
acts_by_name (Some c) p name e law h = subst (λ n. is_behaviour c.kind n ≡ true) (sym e) (law c.kind (subst (λ n. has_property c.kind n ≡ true) e h))
acts_by_name None p name e law h = absurd h

item_by_name : (k : ℕ) (o : Option ControlName) (p name : List ℕ) → encode_utf8_all p ≡ encode_utf8_all name → item_in k p o ≡ item_in k name o
item_by_name k (Some c) p name e = ap (λ n. item_or c.gallery (acts_for_gallery c.kind n) k) e
item_by_name k None p name e = refl

-- ---- the place of a trigger
abbrev ActsFor : App → Option ℕ → Spot → Type 0
ActsFor a gallery s = (can_act (frame_in a) s ≡ true) × (gallery_seen (frame_in a) s ≡ gallery)

property_acts : (a : App) (k : ℕ) (name : List ℕ) (s : Spot) → NeverPure name → encode_utf8_all name ≡ name → is_property_named k name s ≡ true → IsSpot (frame_in a) s → ActsFor a (trigger_gallery a k name) s
property_acts a k name (spot.Property c p) law own e h =
    let w = and_parts (c == k) (bytes_eq (encode_utf8_all p) name) e in
    let same : c ≡ k = eqb-true c k w.0 in
    let named : encode_utf8_all p ≡ name = (bytes_eq-Decides (encode_utf8_all p) name).0 w.1 in (
      acts_by_name (slice_get a.names.controls c) p name named law h,
      item_by_name c (slice_get a.names.controls c) p name (named ∙ sym own) ∙ ap (λ z. item_in z name (slice_get a.names.controls z)) same,
    )
property_acts a k name (spot.Formula x) law own e h = absurd cc
property_acts a k name spot.OnStart law own e h = absurd cc
property_acts a k name (spot.OnVisible s) law own e h = absurd cc

start_acts : (a : App) (s : Spot) → is_at OnStart s ≡ true → ActsFor a None s
start_acts a spot.OnStart e = (refl, refl)
start_acts a (spot.Formula x) e = absurd cc
start_acts a (spot.OnVisible s) e = absurd cc
start_acts a (spot.Property c p) e = absurd cc

visible_acts : (a : App) (k : ℕ) (s : Spot) → is_at (OnVisible k) s ≡ true → ActsFor a None s
visible_acts a k (spot.OnVisible s) e = (refl, refl)
visible_acts a k (spot.Formula x) e = absurd cc
visible_acts a k spot.OnStart e = absurd cc
visible_acts a k (spot.Property c p) e = absurd cc

spot_acts : (a : App) (t : Trigger) (s : Spot) → is_at t s ≡ true → IsSpot (frame_in a) s → ActsFor a (gallery_at a t) s
unfolding lib.Utf8.encode
spot_acts a OnStart s e h = start_acts a s e
spot_acts a (OnVisible k) s e h = visible_acts a k s e
spot_acts a (OnSelect k) s e h = property_acts a k (codes "OnSelect") s selects refl e h
spot_acts a (OnChange k) s e h = property_acts a k (codes "OnChange") s changes refl e h
spot_acts a (OnCheck k) s e h = property_acts a k (codes "OnCheck") s checks refl e h
spot_acts a (OnUncheck k) s e h = property_acts a k (codes "OnUncheck") s unchecks refl e h

-- what is found passes its test
passes : {X : Type 0} (test : X → Bool) (xs : List X) (k : ℕ) (x : X) → position test xs ≡ Some k → slice_get xs k ≡ Some x → test x ≡ true
passes test xs k x e h = by (nat_lt (position_or_len test xs) (length xs)) refl e
  where
    by : (b : Bool) → nat_lt (position_or_len test xs) (length xs) ≡ b → cond b (Some (position_or_len test xs)) None ≡ Some k → test x ≡ true
    by true l q =
        let same : position_or_len test xs ≡ k = cc in
        let here : get_or xs (position_or_len test xs) x ≡ x = get_or_from_slice_get xs (position_or_len test xs) x x (ap (slice_get xs) same ∙ h) in
        sym (ap test here) ∙ passes_at_first test xs x (ltb-true (position_or_len test xs) (length xs) l)
    by false l q = absurd cc

-- THE CELL OF A TRIGGER acts, and sees the item of the trigger's gallery
pub trigger_acts : (a : App) (t : Trigger) (k : ℕ) (c : CellInfo) → IsSoundApp a → cell_at t a ≡ Some k → slice_get a.cells k ≡ Some c → (c.cell.acts ≡ true) × (c.cell.item ≡ gallery_at a t)
trigger_acts a t k c sound at there =
    let placed : IsPlaced (frame_in a) c.cell = sound.placed k c there in
    let w = spot_acts a t c.cell.spot (passes (λ (i : CellInfo). is_at t i.cell.spot) a.cells k c at there) placed.spot in
    (placed.acts ∙ w.0, placed.item ∙ w.1)
