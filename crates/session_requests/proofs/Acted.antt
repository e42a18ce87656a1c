-- What acts sees the item that it should.
use Rattle.std.proofs.Common.{◌≡◌, ℕ, Bool, true, false, List, Option, Some, None, refl, ap, sym, ◌∙◌, subst, codes, encode_utf8_all, if◌then◌else◌}
use Rattle.std.specs.Prelude.{IfSome, option_map, slice_get}
use Rattle.fx_types.specs.Values.{Data}
use Rattle.fx_types.specs.declared.controls.Control.{Control}
use Rattle.fx_types.specs.declared.controls.Control.TheVariants as control
use Rattle.fx_core.specs.Lawful.{IsGallery, IsLawfulGallery}
use Rattle.fx_core.specs.declared.names.ControlName.{ControlName}
use Rattle.fx_core.specs.declared.names.Names.{Names}
use Rattle.fx_typing.specs.Typing.{item_context}
use Rattle.recalc.specs.app_cells.Spots.{acts_for_gallery, item_in, item_or}
use Rattle.recalc.specs.app_cells.declared.app.App.{App}
use Rattle.recalc.specs.app_semantics.Chosen.{row_at_position}
use Rattle.recalc.specs.app_semantics.Present.{items_of}
use Rattle.recalc.specs.app_semantics.Sound.{IsSoundApp}
use Rattle.recalc.specs.fx_semantics.Around.{record_of}
use Rattle.recalc.specs.fx_semantics.Rows.{rows_in}
use Rattle.recalc.specs.fx_semantics.Sound.{IsItemFit}
use Rattle.recalc.specs.Values.{CellsFit}
use Rattle.session_requests.specs.Triggers.{ItemFits, trigger_gallery as gallery_seen}
use Rattle.session_requests.specs.declared.trigger.Trigger.TheVariants.{OnChange, OnCheck, OnSelect, OnUncheck}
use Rattle.session_requests.specs.Acting.{item_seen, trigger_at, trigger_of}
use Rattle.session_requests.specs.Targets.{IsItemRow, IsTarget, event_gallery, is_gallery}
use Rattle.session_requests.specs.declared.target.Item.{Item}
use Rattle.session_requests.specs.declared.target.Target.{Target}
use Rattle.session_requests.proofs.Items.{control_lawful, row_fits}
use Rattle.session_requests.proofs.Judging.{IsTaker}

-- ---- inputs

sees_none : (a : App) (k : ℕ) (name : List ℕ) (c : ControlName) → slice_get a.names.controls k ≡ Some c → c.gallery ≡ None → acts_for_gallery c.kind (encode_utf8_all name) ≡ false
    → IsItemFit None (item_context a.names (gallery_seen a k name))
sees_none a k name c there alone plain =
    let none : gallery_seen a k name ≡ None =
    ap (item_in k name) there ∙ ap (λ (o : Option ℕ). item_or o (acts_for_gallery c.kind (encode_utf8_all name)) k) alone ∙ ap (λ (b : Bool). item_or None b k) plain in
    subst (λ (g : Option ℕ). IsItemFit None (item_context a.names g)) (sym none) tt

changes : (kind : Control) → acts_for_gallery kind (encode_utf8_all (codes "OnChange")) ≡ false
unfolding lib.Utf8.encode
changes control.Label = refl
changes control.Button = refl
changes control.TextInput = refl
changes control.Slider = refl
changes control.Checkbox = refl
changes control.DatePicker = refl
changes control.Gallery = refl

checks : (kind : Control) → acts_for_gallery kind (encode_utf8_all (codes "OnCheck")) ≡ false
unfolding lib.Utf8.encode
checks control.Label = refl
checks control.Button = refl
checks control.TextInput = refl
checks control.Slider = refl
checks control.Checkbox = refl
checks control.DatePicker = refl
checks control.Gallery = refl

unchecks : (kind : Control) → acts_for_gallery kind (encode_utf8_all (codes "OnUncheck")) ≡ false
unfolding lib.Utf8.encode
unchecks control.Label = refl
unchecks control.Button = refl
unchecks control.TextInput = refl
unchecks control.Slider = refl
unchecks control.Checkbox = refl
unchecks control.DatePicker = refl
unchecks control.Gallery = refl

module _ (a : App) (k : ℕ) (c : ControlName) (there : slice_get a.names.controls k ≡ Some c) (alone : c.gallery ≡ None) where
  at_change : ItemFits a (OnChange k) None
  at_change = sees_none a k (codes "OnChange") c there alone (changes c.kind)

  of_kind : (kind : Control) (checked : Bool) → ItemFits a (trigger_of kind k checked) None
  of_kind control.Checkbox true = sees_none a k (codes "OnCheck") c there alone (checks c.kind)
  of_kind control.Checkbox false = sees_none a k (codes "OnUncheck") c there alone (unchecks c.kind)
  of_kind control.Label checked = at_change
  of_kind control.Button checked = at_change
  of_kind control.TextInput checked = at_change
  of_kind control.Slider checked = at_change
  of_kind control.DatePicker checked = at_change
  of_kind control.Gallery checked = at_change

-- THE formula of an input sees no item
pub input_item : (a : App) (k : ℕ) (checked : Bool) → IsTaker a.names k → ItemFits a (trigger_at (slice_get a.names.controls k) k checked) None
input_item a k checked h =
    subst (λ (o : Option ControlName). ItemFits a (trigger_at o k checked) None) (sym h.there) (of_kind a k h.control h.there h.alone (h.control).kind checked)

-- ---- events

selects : (kind : Control) → acts_for_gallery kind (encode_utf8_all (codes "OnSelect")) ≡ is_gallery kind
unfolding lib.Utf8.encode
selects control.Label = refl
selects control.Button = refl
selects control.TextInput = refl
selects control.Slider = refl
selects control.Checkbox = refl
selects control.DatePicker = refl
selects control.Gallery = refl

-- the gallery whose item an event has is the one whose item its formula sees
same_gallery : (a : App) (k : ℕ) (c : ControlName) → slice_get a.names.controls k ≡ Some c → gallery_seen a k (codes "OnSelect") ≡ event_gallery k c
same_gallery a k c there = ap (item_in k (codes "OnSelect")) there ∙ ap (λ (b : Bool). item_or c.gallery b k) (selects c.kind)

kind_is : (kind : Control) → is_gallery kind ≡ true → kind ≡ control.Gallery
kind_is control.Gallery e = refl
kind_is control.Label e = absurd cc
kind_is control.Button e = absurd cc
kind_is control.TextInput e = absurd cc
kind_is control.Slider e = absurd cc
kind_is control.Checkbox e = absurd cc
kind_is control.DatePicker e = absurd cc

own_gallery : (n : Names) (k g : ℕ) (c : ControlName) (o : Option ℕ) (own : Bool) → slice_get n.controls k ≡ Some c → IsLawfulGallery n.controls o → is_gallery c.kind ≡ own → item_or o own k ≡ Some g → IsGallery (slice_get n.controls g)
own_gallery n k g c (Some h) own there at kind e = let same : h ≡ g = cc in subst (λ (j : ℕ). IsGallery (slice_get n.controls j)) same at
own_gallery n k g c None true there at kind e =
    let same : k ≡ g = cc in
    subst (λ (j : ℕ). IsGallery (slice_get n.controls j)) same (subst IsGallery (sym there) (kind_is c.kind kind))
own_gallery n k g c None false there at kind e = absurd cc

-- THE item that an event has fits its formula
pub event_item : (a : App) (values : ℕ → Data) (t : Target) → IsSoundApp a → CellsFit a values → IsTarget a.names values t → ItemFits a (OnSelect t.control) (item_seen a.names values t.item)
event_item a values t sound fits h =
    subst (λ (g : Option ℕ). IsItemFit (item_seen a.names values t.item) (item_context a.names g)) (sym (same_gallery a t.control h.control h.there)) (by t.item refl h.item)
  where
    by : (o : Option Item) → t.item ≡ o → IfSome o (IsItemRow a.names values (event_gallery t.control h.control)) → IsItemFit (item_seen a.names values o) (item_context a.names (event_gallery t.control h.control))
    by None e q = subst (λ (g : Option ℕ). IsItemFit None (item_context a.names g)) (sym (h.alone e)) tt
    by (Some i) e q =
        let gallery : IsGallery (slice_get a.names.controls i.gallery) =
        own_gallery a.names t.control i.gallery h.control (h.control).gallery (is_gallery (h.control).kind) h.there (control_lawful a.names t.control h.control sound.names h.there).1 refl q.gallery_is in
        subst (λ (g : Option ℕ). IsItemFit (item_seen a.names values (Some i)) (item_context a.names g)) (sym q.gallery_is)
        (subst (λ (r : Option Data). IsItemFit r (item_context a.names (Some i.gallery))) (sym (ap (option_map record_of) q.there))
        (row_fits a values i.gallery i.at q.row sound fits gallery q.there))
