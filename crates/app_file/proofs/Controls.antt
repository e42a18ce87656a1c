-- Controls, whose form goes by their kind, and screens.
use Rattle.std.proofs.Common.{◌≡◌, ℕ, suc, ◌==◌, true, false, List, [], ◌∷◌, Option, Some, None, codes, length, map, refl, ap, sym, ◌∙◌, subst, arith}
use Rattle.std.proofs.lemmas.Bool.Decides.{nat_tests}
use Rattle.std.specs.Prelude.{option_and_then, option_map, unwrap_or}
use Rattle.serde_json.specs.Data.{Data}
use Rattle.serde_json.specs.Find.{as_array}
use Rattle.serde_json.specs.View.{items_view, view}
use Rattle.serde_json.specs.declared.value.Value.{Value}
use Rattle.fx_base.specs.declared.or_memory.OrMemory.{OrMemory}
use Rattle.fx_base.specs.declared.or_memory.OrMemory.TheVariants.{Refused}
use Rattle.fx_types.specs.declared.controls.Control.{Control}
use Rattle.fx_types.specs.declared.controls.Control.TheVariants as control
use Rattle.app_file.specs.declared.keys.Object.TheVariants as object
use Rattle.app_file.specs.declared.leaves.RowLimit.{RowLimit}
use Rattle.app_file.specs.declared.screens.Screens.{Screens}
use Rattle.app_file.specs.declared.steps.Step.{Step}
use Rattle.app_file.specs.Contents.{all_elements, kind, limit, screen}
use Rattle.app_file.specs.FormOfApp.{control_fields, control_form, each, gallery_before, is_empty_list, kind_member, control_kind, leaf, name, properties_form, screen_fields, screens_form, screens_form_of}
use Rattle.app_file.specs.Forms.{Form, BreaksForm, IsField, IsFine, bad_by_itself, elements, first, later, elements_of, members, not_such}
use Rattle.app_file.specs.Keys.{keys_of}
use Rattle.app_file.specs.Readings.{HasOnlyKeys, IsBadMember, IsBadObject, IsFineMember, TellsPath}
use Rattle.serde_json.specs.Find.{as_object}
use Rattle.app_file.proofs.Fine.{AreFields, bad_leaf, fine_by_itself, fine_members, told_by_itself, told_field, told_object}
use Rattle.app_file.proofs.Lists.{elements_are}
use Rattle.app_file.proofs.Objects.{keys_of_control}

-- a kind that is read is the kind of the control
known_by : (x : Data) (k : Control) (r : Option Control) → control_kind x ≡ r → IsFine (leaf control_kind) x → Some k ≡ Some (unwrap_or r control.Label) → r ≡ Some k
known_by x k None e fine is = absurd (fine [] (bad_leaf control_kind x (sym e)))
known_by x k (Some j) e fine is = sym is

pub kind_known : (o : Option Data) (k : Control) → IsFineMember true (leaf control_kind) o → Some k ≡ option_map kind o → option_and_then control_kind o ≡ Some k
kind_known None k m e = absurd cc
kind_known (Some x) k m e = known_by x k (control_kind x) refl m e

module _ (before : List Data) (d : Data) where
  abbrev asks : Data → Form
  asks x = members (control_fields before (kind_member x))

  name_field : (k : Option Control) → IsField true (codes "name") name (control_fields before k)
  name_field None = first
  name_field (Some k) = first

  kind_field : (k : Option Control) → IsField true (codes "kind") (leaf control_kind) (control_fields before k)
  kind_field None = later first
  kind_field (Some k) = later first

  pub told_keys : (e : OrMemory (List Step)) → TellsPath (IsBadObject (keys_of object.Control) d) e → TellsPath (BreaksForm (control_form before) d) e
  told_keys e h = told_by_itself asks d e (told_object (keys_of object.Control) (control_fields before (kind_member d)) d (keys_of_control before (kind_member d)) e h)

  pub told_name : (e : OrMemory (List Step)) → TellsPath (IsBadMember true (codes "name") name d) e → TellsPath (BreaksForm (control_form before) d) e
  told_name e h = told_by_itself asks d e (told_field (control_fields before (kind_member d)) d true (codes "name") name (name_field (kind_member d)) e h)

  pub told_kind : (e : OrMemory (List Step)) → TellsPath (IsBadMember true (codes "kind") (leaf control_kind) d) e → TellsPath (BreaksForm (control_form before) d) e
  told_kind e h = told_by_itself asks d e (told_field (control_fields before (kind_member d)) d true (codes "kind") (leaf control_kind) (kind_field (kind_member d)) e h)

  pub told_gallery : (k : Control) → kind_member d ≡ Some k → (e : OrMemory (List Step)) → TellsPath (IsBadMember false (codes "in") (leaf (gallery_before before k)) d) e
      → TellsPath (BreaksForm (control_form before) d) e
  told_gallery k is e h =
      told_by_itself asks d e (told_field (control_fields before (kind_member d)) d false (codes "in") (leaf (gallery_before before k))
      (subst (λ o. IsField false (codes "in") (leaf (gallery_before before k)) (control_fields before o)) (sym is) (later (later first))) e h)

  pub told_properties : (k : Control) → kind_member d ≡ Some k → (e : OrMemory (List Step)) → TellsPath (IsBadMember false (codes "properties") (properties_form k) d) e
      → TellsPath (BreaksForm (control_form before) d) e
  told_properties k is e h =
      told_by_itself asks d e (told_field (control_fields before (kind_member d)) d false (codes "properties") (properties_form k)
      (subst (λ o. IsField false (codes "properties") (properties_form k) (control_fields before o)) (sym is) (later (later (later first)))) e h)

  pub fine_control : (k : Control) → kind_member d ≡ Some k → HasOnlyKeys (keys_of object.Control) (as_object d) → AreFields (control_fields before (Some k)) d → IsFine (control_form before) d
  fine_control k is only h =
      fine_by_itself asks d (fine_members (keys_of object.Control) (control_fields before (kind_member d)) d (keys_of_control before (kind_member d)) only
      (subst (λ o. AreFields (control_fields before o) d) (sym is) h))

-- ---- screens
nonzero : (n : ℕ) → (suc n == 0) ≡ false
nonzero n = grind (arith, nat_tests)

none_left : (vs : List Value) → (length vs == 0) ≡ is_empty_list (Some (map view vs))
none_left [] = refl
none_left (v ∷ vs) = nonzero (length vs)

pub empty_elements : (vs : List Value) (d : Data) → Some (items_view vs) ≡ as_array d → (length vs == 0) ≡ is_empty_list (elements d)
empty_elements vs d e = none_left vs ∙ ap is_empty_list (sym (elements_are d (map view vs) e))

pub no_elements : (d : Data) → None ≡ as_array d → false ≡ is_empty_list (elements d)
no_elements d e = ap (λ o. is_empty_list (option_map elements_of o)) e

abbrev screens_ask : Data → Form
screens_ask x = screens_form_of (is_empty_list (elements x))

pub told_no_screen : (d : Data) → is_empty_list (elements d) ≡ true → (e : OrMemory (List Step)) → e ≡ Refused [] → TellsPath (BreaksForm screens_form d) e
told_no_screen d none e is =
    subst (TellsPath (BreaksForm screens_form d)) (sym is) (bad_by_itself screens_ask d [] (subst (λ b. BreaksForm (screens_form_of b) d []) (sym none) (not_such (λ x. false) d refl)))

pub told_screens : (d : Data) → is_empty_list (elements d) ≡ false → (e : OrMemory (List Step)) → TellsPath (BreaksForm (each (members screen_fields)) d) e → TellsPath (BreaksForm screens_form d) e
told_screens d some e h = told_by_itself screens_ask d e (subst (λ b. TellsPath (BreaksForm (screens_form_of b) d) e) (sym some) h)

pub fine_screens : (d : Data) → is_empty_list (elements d) ≡ false → IsFine (each (members screen_fields)) d → IsFine screens_form d
fine_screens d some h = fine_by_itself screens_ask d (subst (λ b. IsFine (screens_form_of b) d) (sym some) h)

pub screens_held : (o : Option Data) (a : Screens) → Some a ≡ option_map (λ d. record { 0 = all_elements screen d }) o → a.0 ≡ unwrap_or (option_map (all_elements screen) o) []
screens_held None a e = absurd cc
screens_held (Some x) a e = let one : a ≡ record { 0 = all_elements screen x } = cc in ap (λ (s : Screens). s.0) one

pub limit_held : (o : Option Data) (a : RowLimit) → a ≡ unwrap_or (option_map (λ d. record { 0 = limit d }) o) (record { 0 = 500 }) → a.0 ≡ unwrap_or (option_map limit o) 500
limit_held None a e = ap (λ (l : RowLimit). l.0) e
limit_held (Some x) a e = ap (λ (l : RowLimit). l.0) e
