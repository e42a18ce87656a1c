-- What a file of the form holds: columns of types that columns may have, galleries, and properties of their controls' kinds.
use Rattle.std.specs.Cmp.{second_so}
use Rattle.std.proofs.Common.{◌≡◌, ℕ, zero, suc, ◌+◌, ◌<◌, ◌≤◌, Bool, true, false, List, [], ◌∷◌, ◌++◌, Option, Some, None, IfSome, codes, cond, length, take, refl, ap, sym, ◌∙◌, subst, arith, All, append_assoc, bytes_eq, rules, if◌then◌else◌}
use Rattle.std.specs.Prelude.{encode_utf8_all, is_some, option_map, option_and_then, slice_get, unwrap_or}
use Rattle.std.specs.List.{cons_option, filter_map, position_from}
use Rattle.std.specs.Str.{IsUtf8}
use Rattle.std.proofs.lemmas.List.{append-nil}
use Rattle.std.proofs.lemmas.List.Elements.{All-nil, All-cons}
use Rattle.std.proofs.lemmas.Slice.Eq.{bytes_eq-Decides}
use Rattle.fx_types.proofs.Texts.{encodes_chars}
use Rattle.serde_json.specs.Data.{Data}
use Rattle.serde_json.specs.Find.{as_str, get}
use Rattle.fx_types.specs.Words.{scalars_of}
use Rattle.fx_types.specs.declared.controls.Control.{Control}
use Rattle.fx_types.specs.declared.controls.Control.TheVariants as control
use Rattle.fx_types.specs.declared.types.Ty.{Ty}
use Rattle.fx_types.specs.declared.types.Ty.TheVariants as ty
use Rattle.fx_core.specs.Controls.{has_property}
use Rattle.fx_core.specs.Lawful.{IsColumnType}
use Rattle.fx_core.specs.declared.schema.Column.{Column}
use Rattle.fx_core.specs.declared.schema.TableShape.{TableShape}
use Rattle.app_file.specs.declared.file.ControlShape.{ControlShape}
use Rattle.app_file.specs.declared.file.PropertyText.{PropertyText}
use Rattle.app_file.specs.declared.file.ScreenShape.{ScreenShape}
use Rattle.app_file.specs.Contents.{all_elements, all_behind, member_at, column, column_ty, control_shape, kind, kind_at, properties, property, screen, table_shape, words}
use Rattle.app_file.specs.FormOfApp.{app_fields, app_form, column_fields, column_type_of, each, gallery_before, gallery_place, is_gallery_shape, is_text_at, is_this, kind_named, control_kind, leaf, may_stand_in_gallery, property_names, table_fields, type_named}
use Rattle.app_file.specs.Forms.{Form, IsFine, elements, first, later, members}
use Rattle.app_texts.specs.Files.{HasGalleries, HasProperties, IsGalleryShapeAt, IsGalleryShape}
use Rattle.app_texts.proofs.Held.{all_hold, at_holds, leaf_told, list_holds, must_hold}

-- ---- the types of columns
or_if : (b : Bool) (t : Ty) (o : Option Ty) → IsColumnType t → IfSome o IsColumnType → IfSome (if b then Some t else o) IsColumnType
or_if true t o h k = h
or_if false t o h k = k

named_type : (t : List ℕ) → IfSome (type_named t) IsColumnType
named_type t =
    or_if (bytes_eq t (codes "Number")) ty.Number (if bytes_eq t (codes "Text") then Some ty.Text else (if bytes_eq t (codes "Boolean") then Some ty.Boolean else (if bytes_eq t (codes "Date") then Some ty.Date else None))) tt
    (or_if (bytes_eq t (codes "Text")) ty.Text (if bytes_eq t (codes "Boolean") then Some ty.Boolean else (if bytes_eq t (codes "Date") then Some ty.Date else None)) tt
    (or_if (bytes_eq t (codes "Boolean")) ty.Boolean (if bytes_eq t (codes "Date") then Some ty.Date else None) tt
    (or_if (bytes_eq t (codes "Date")) ty.Date None tt tt)))

told_type : (o : Option (List ℕ)) → IfSome (option_and_then type_named o) IsColumnType
told_type (Some t) = named_type t
told_type None = tt

abbrev HasType : Column → Type 0
HasType c = IsColumnType c.ty

abbrev pub HasTypes : TableShape → Type 0
HasTypes t = All HasType t.columns

column_typed : (before : List Data) (d : Data) → IsFine (members column_fields) d → HasType (column before d)
column_typed before d fine =
    must_hold column_fields d (codes "type") (leaf column_type_of) column_ty ty.Blank IsColumnType fine (later first)
    (λ x k. leaf_told column_type_of x IsColumnType ty.Blank k (told_type (as_str x)))

table_typed : (before : List Data) (d : Data) → IsFine (members table_fields) d → HasTypes (table_shape before d)
table_typed before d fine =
    at_holds table_fields d true (codes "columns") (each (members column_fields)) (all_elements column) (All HasType) (All-nil HasType) fine (later first)
    (λ x k. list_holds (λ b. members column_fields) column HasType x k column_typed)

pub tables_typed : (d : Data) → IsFine app_form d → All HasTypes (member_at (all_elements table_shape) (codes "tables") [] d)
tables_typed d fine =
    at_holds app_fields d false (codes "tables") (each (members table_fields)) (all_elements table_shape) (All HasTypes) (All-nil HasTypes) fine (later (later first))
    (λ x k. list_holds (λ b. members table_fields) table_shape HasTypes x k table_typed)

-- ---- what holds of every part
pub any_list : {A : Type 0} (h : List Data → Data → A) (P : A → Type 0) (o : Option (List Data)) → ((before : List Data) (x : Data) → P (h before x)) → All P (all_behind h [] (unwrap_or o []))
any_list h P (Some ds) f = all_hold h P [] ds (λ k x e. f (take k ds) x)
any_list h P None f = All-nil P

pub any_at : {A : Type 0} (h : Data → List A) (P : List A → Type 0) (o : Option Data) → P [] → ((x : Data) → P (h x)) → P (unwrap_or (option_map h o) [])
any_at h P (Some x) none f = f x
any_at h P None none f = none

-- ---- galleries
is_gallery_kind : (o : Option Data) → is_this (codes "Gallery") (option_and_then as_str o) ≡ true → unwrap_or (option_map kind o) control.Label ≡ control.Gallery
is_gallery_kind None e = absurd cc
is_gallery_kind (Some x) e = go (as_str x) e
  where
    go : (s : Option (List ℕ)) → is_this (codes "Gallery") s ≡ true → unwrap_or (option_and_then kind_named s) control.Label ≡ control.Gallery
    go None f = absurd cc
    go (Some t) f = subst (λ u. unwrap_or (kind_named u) control.Label ≡ control.Gallery) (sym ((bytes_eq-Decides t (codes "Gallery")).0 f)) refl

gallery_kind : (x : List ℕ) (d : Data) → is_gallery_shape x d ≡ true → kind_at d ≡ control.Gallery
gallery_kind x d e = is_gallery_kind (get (codes "kind") d) (second_so (is_text_at (codes "name") x d) (is_text_at (codes "kind") (codes "Gallery") d) e)

-- a place that is found is that of something that meets the test
record IsFound {A : Type 0} (p : A → Bool) (n : ℕ) (xs : List A) (g : ℕ) : Type 0 where
  place : ℕ
  thing : A
  is : g ≡ n + place
  there : slice_get xs place ≡ Some thing
  meets : p thing ≡ true

found : {A : Type 0} (p : A → Bool) (n : ℕ) (xs : List A) → IfSome (position_from p n xs) (IsFound p n xs)
found p n [] = tt
found p n (x ∷ xs) = go (p x) refl (found p (n + 1) xs)
  where
    onward : (o : Option ℕ) → IfSome o (IsFound p (n + 1) xs) → IfSome o (IsFound p n (x ∷ xs))
    onward None h = tt
    onward (Some g) h = let e = h.is in record { place = suc h.place; thing = h.thing; is = omega (arith, e); there = h.there; meets = h.meets }

    go : (b : Bool) → p x ≡ b → IfSome (position_from p (n + 1) xs) (IsFound p (n + 1) xs) → IfSome (cond b (Some n) (position_from p (n + 1) xs)) (IsFound p n (x ∷ xs))
    go true e h = record { place = 0; thing = x; is = omega arith; there = refl; meets = e }
    go false e h = onward (position_from p (n + 1) xs) h

in_front : {A : Type 0} (k j : ℕ) (xs : List A) (x : A) → slice_get (take k xs) j ≡ Some x → slice_get xs j ≡ Some x
in_front zero j xs x e = absurd cc
in_front (suc k) j [] x e = absurd cc
in_front (suc k) zero (y ∷ ys) x e = e
in_front (suc k) (suc j) (y ∷ ys) x e = in_front k j ys x e

held_there : {A : Type 0} (h : List Data → Data → A) (before ds : List Data) (j : ℕ) (x : Data) → slice_get ds j ≡ Some x → slice_get (all_behind h before ds) j ≡ Some (h (before ++ take j ds) x)
held_there h before [] j x e = absurd cc
held_there h before (d ∷ ds) zero x e = let one : Some d ≡ Some x = e in let same : d ≡ x = cc in ap (λ y. Some (h before y)) same ∙ ap (λ b. Some (h b x)) (sym (append-nil before))
held_there h before (d ∷ ds) (suc j) x e = held_there h (before ++ d ∷ []) ds j x e ∙ ap (λ b. Some (h b x)) (append_assoc before (d ∷ []) (take j ds))

abbrev shapes : List Data → List ControlShape
shapes ds = all_behind control_shape [] ds

place_right : (ds : List Data) (k : ℕ) (x : List ℕ) → IsGalleryShapeAt (shapes ds) (gallery_place (take k ds) x)
place_right ds k x = go (gallery_place (take k ds) x) (found (is_gallery_shape x) 0 (take k ds))
  where
    go : (o : Option ℕ) → IfSome o (IsFound (is_gallery_shape x) 0 (take k ds)) → IsGalleryShapeAt (shapes ds) o
    go None h = tt
    go (Some g) h =
        let there = held_there control_shape [] ds h.place h.thing (in_front k h.place ds h.thing h.there) in
        let i = h.is in
        let e : g ≡ h.place = omega (arith, i) in
        subst (λ j. IsGalleryShape (slice_get (shapes ds) j)) (sym e) (subst IsGalleryShape (sym there) (gallery_kind x h.thing h.meets))

told_place : (ds : List Data) (k : ℕ) (o : Option (List ℕ)) → IsGalleryShapeAt (shapes ds) (option_and_then (gallery_place (take k ds)) o)
told_place ds k None = tt
told_place ds k (Some x) = place_right ds k x

kind_place : (b : Bool) (ds : List Data) (k : ℕ) (d : Data) → IsGalleryShapeAt (shapes ds) (if b then option_and_then (gallery_place (take k ds)) (as_str d) else None)
kind_place true ds k d = told_place ds k (as_str d)
kind_place false ds k d = tt

member_place : (ds : List Data) (k : ℕ) (kind : Control) (o : Option Data) → IsGalleryShapeAt (shapes ds) (option_and_then (gallery_before (take k ds) kind) o)
member_place ds k kind None = tt
member_place ds k kind (Some d) = kind_place (may_stand_in_gallery kind) ds k d

abbrev HaveGalleries : List ControlShape → Type 0
HaveGalleries cs = All (λ (c : ControlShape). IsGalleryShapeAt cs c.gallery) cs

list_galleries : (o : Option (List Data)) → HaveGalleries (all_behind control_shape [] (unwrap_or o []))
list_galleries None = All-nil (λ (c : ControlShape). IsGalleryShapeAt [] c.gallery)
list_galleries (Some ds) = all_hold control_shape (λ (c : ControlShape). IsGalleryShapeAt (shapes ds) c.gallery) [] ds (λ k x e. member_place ds k (kind_at x) (get (codes "in") x))

screen_galleries : (before : List Data) (d : Data) → HasGalleries (screen before d)
screen_galleries before d = any_at (all_elements control_shape) HaveGalleries (get (codes "controls") d) (All-nil (λ (c : ControlShape). IsGalleryShapeAt [] c.gallery)) (λ x. list_galleries (elements x))

pub galleries_right : (d : Data) → All HasGalleries (member_at (all_elements screen) (codes "screens") [] d)
galleries_right d = any_at (all_elements screen) (All HasGalleries) (get (codes "screens") d) (All-nil HasGalleries) (λ x. any_list screen HasGalleries (elements x) screen_galleries)

-- ---- properties
-- each property of a kind is one of it
abbrev pub AreProperties : Control → List (List ℕ) → Type 0
AreProperties k [] = Unit {0}
AreProperties k (x ∷ xs) = IsUtf8 x × (has_property k x ≡ true) × AreProperties k xs

pub own_properties : (k : Control) → AreProperties k (property_names k)
own_properties control.Label = (search rules, refl, (search rules, refl, (search rules, refl, tt)))
own_properties control.Button = (search rules, refl, (search rules, refl, (search rules, refl, tt)))
own_properties control.TextInput = (search rules, refl, (search rules, refl, (search rules, refl, tt)))
own_properties control.Slider = (search rules, refl, (search rules, refl, (search rules, refl, (search rules, refl, (search rules, refl, tt)))))
own_properties control.Checkbox = (search rules, refl, (search rules, refl, (search rules, refl, (search rules, refl, (search rules, refl, tt)))))
own_properties control.DatePicker = (search rules, refl, (search rules, refl, (search rules, refl, tt)))
own_properties control.Gallery = (search rules, refl, (search rules, refl, (search rules, refl, tt)))

abbrev IsIts : Control → PropertyText → Type 0
IsIts k p = has_property k (encode_utf8_all p.name) ≡ true

same_bytes : (x : List ℕ) → IsUtf8 x → encode_utf8_all (scalars_of x) ≡ x
same_bytes x h = sym (encodes_chars x h)

put_option : {A : Type 0} (P : A → Type 0) (o : Option A) (xs : List A) → IfSome o P → All P xs → All P (cons_option o xs)
put_option P None xs h k = k
put_option P (Some a) xs h k = All-cons P a xs h k

one_property : (k : Control) (x : List ℕ) (o : Option Data) → IsUtf8 x → has_property k x ≡ true → IfSome (option_map (λ d. record { name = scalars_of x; text = words d }) o) (IsIts k)
one_property k x None h e = tt
one_property k x (Some d) h e = ap (has_property k) (same_bytes x h) ∙ e

these_properties : (k : Control) (d : Data) (xs : List (List ℕ)) → AreProperties k xs → All (IsIts k) (filter_map (property d) xs)
these_properties k d [] h = All-nil (IsIts k)
these_properties k d (x ∷ xs) h = put_option (IsIts k) (property d x) (filter_map (property d) xs) (one_property k x (get x d) h.0 h.1) (these_properties k d xs h.2)

abbrev HasIts : ControlShape → Type 0
HasIts c = All (IsIts c.kind) c.properties

control_properties : (before : List Data) (d : Data) → HasIts (control_shape before d)
control_properties before d =
    any_at (properties (kind_at d)) (All (IsIts (kind_at d))) (get (codes "properties") d) (All-nil (IsIts (kind_at d))) (λ x. these_properties (kind_at d) x (property_names (kind_at d)) (own_properties (kind_at d)))

screen_properties : (before : List Data) (d : Data) → HasProperties (screen before d)
screen_properties before d = any_at (all_elements control_shape) (All HasIts) (get (codes "controls") d) (All-nil HasIts) (λ x. any_list control_shape HasIts (elements x) control_properties)

pub properties_right : (d : Data) → All HasProperties (member_at (all_elements screen) (codes "screens") [] d)
properties_right d = any_at (all_elements screen) (All HasProperties) (get (codes "screens") d) (All-nil HasProperties) (λ x. any_list screen HasProperties (elements x) screen_properties)
