-- No float stands in what is written here.
use Rattle.std.proofs.Common.{◌≡◌, ℕ, ℤ, pos, negsuc, Bool, true, false, List, [], ◌∷◌, map, refl, Option, Some, None, cond, unsigned_abs, ◌%◌}
use Rattle.std.specs.Prelude.{◌==◌, codes}
use Rattle.fx_number.specs.Spelling.{text_of}
use Rattle.serde_json.specs.Data as json
use Rattle.serde_json.specs.View.{items_of}
use Rattle.serde_json.specs.Written.{has_float, items_have_float, members_have_float}
use Rattle.serde_json.specs.Find.{of_integer, is_float}
use Rattle.fx_types.specs.Values.{Data, blank, number, text, boolean, date, rec, tab, fault, FieldList, field_list, no_fields, field, RowList, no_rows, row}
use Rattle.fx_types.specs.ValueView.{view}
use Rattle.view_text.specs.JsonText.{value_data, fields_data, rows_data, tagged, whole_units}
use Rattle.view_text.specs.ReplyText.{named_data, all_named_data}
use Rattle.view_text.specs.RefusalText.{detail_data, line_data, id_data, refusal_data}
use Rattle.view_text.specs.ViewText.{control_data, item_control_data, item_data, items_data, listed_data, shown_data, shown_with, told_data, event_data, view_data, gallery_data}
use Rattle.view_text.specs.declared.replies.Named.{Named}
use Rattle.view_text.specs.declared.views.View.{View}
use Rattle.view_text.specs.declared.views.Shown.{Shown}
use Rattle.view_text.specs.declared.views.Items.{Items}
use Rattle.view_text.specs.declared.views.ItemView.{ItemView}
use Rattle.view_text.specs.declared.views.ItemControl.{ItemControl}
use Rattle.fx_types.specs.declared.controls.Control.{Control}
use Rattle.fx_types.specs.declared.faults.Fault.{Fault}
use Rattle.view_text.specs.declared.refused.Refusal.{Refusal}
use Rattle.view_text.specs.declared.refused.Detail.{Detail}
use Rattle.view_text.specs.declared.refused.Detail.TheVariants as detail

pub integer_has_none : (z : ℤ) → is_float (of_integer z) ≡ false
integer_has_none (pos n) = refl
integer_has_none (negsuc n) = refl

pub either_has_none : (b : Bool) (c d : json.Data) → has_float c ≡ false → has_float d ≡ false → has_float (cond b c d) ≡ false
either_has_none true c d h k = h
either_has_none false c d h k = k

mutual
  pub value_has_none : (d : Data) → has_float (value_data d) ≡ false
  value_has_none blank = refl
  value_has_none (number z) = either_has_none (unsigned_abs z % 10000 == 0) (json.number (of_integer (whole_units z))) (tagged (codes "n") (json.string (text_of z))) (integer_has_none (whole_units z)) refl
  value_has_none (text cs) = refl
  value_has_none (boolean b) = refl
  value_has_none (date z) = refl
  value_has_none (rec fs) = rw (fields_have_none fs) refl
  value_has_none (tab rs) = rows_have_none rs
  value_has_none (fault k cs) = refl

  fields_have_none : (fs : FieldList) → members_have_float (fields_data fs) ≡ false
  fields_have_none no_fields = refl
  fields_have_none (field n d fs) = rw (value_has_none d) (fields_have_none fs)

  rows_have_none : (rs : RowList) → items_have_float (rows_data rs) ≡ false
  rows_have_none no_rows = refl
  rows_have_none (row fs rs) = rw (fields_have_none fs) (rows_have_none rs)

named_have_none : (ns : List Named) → items_have_float (items_of (map named_data ns)) ≡ false
named_have_none [] = refl
named_have_none (n ∷ ns) = rw (value_has_none (view n.value)) (named_have_none ns)

pub all_named_has_none : (ns : List Named) → has_float (all_named_data ns) ≡ false
all_named_has_none ns = rw (named_have_none ns) refl

lines_have_none : (ls : List (List ℕ)) → items_have_float (items_of (map line_data ls)) ≡ false
lines_have_none [] = refl
lines_have_none (l ∷ ls) = lines_have_none ls

id_has_none : (id : Option ℕ) → has_float (id_data id) ≡ false
id_has_none None = refl
id_has_none (Some n) = refl

detail_has_none : (d : Detail) → has_float (detail_data d) ≡ false
detail_has_none detail.None = refl
detail_has_none (detail.Number n) = refl
detail_has_none (detail.Id id) = id_has_none id
detail_has_none (detail.Row at column rule) = refl
detail_has_none (detail.Lines lines) = lines_have_none lines
detail_has_none (detail.Move table column rule) = refl

pub refusal_has_none : (r : Refusal) → has_float (refusal_data r) ≡ false
refusal_has_none r = rw (detail_has_none r.detail) refl

-- ---- views

control_has_none : (kind : Control) (name : List ℕ) (values : List (List ℕ × Data)) → has_float (control_data kind name values) ≡ false
control_has_none kind name values = rw (fields_have_none (field_list values)) refl

item_controls_have_none : (cs : List ItemControl) → items_have_float (items_of (map item_control_data cs)) ≡ false
item_controls_have_none [] = refl
item_controls_have_none (c ∷ cs) = rw (fields_have_none (field_list c.values)) (item_controls_have_none cs)

item_has_none : (i : ItemView) → has_float (item_data i) ≡ false
item_has_none i = rw (item_controls_have_none i.shown, id_has_none i.id) refl

items_have_none : (is : List ItemView) → items_have_float (items_of (map item_data is)) ≡ false
items_have_none [] = refl
items_have_none (i ∷ is) = rw (item_has_none i) (items_have_none is)

listed_has_none : (f : Option Fault) (is : List ItemView) → has_float (listed_data f is) ≡ false
listed_has_none None is = items_have_none is
listed_has_none (Some f) is = refl

gallery_has_none : (kind : Control) (name : List ℕ) (i : Items) → has_float (gallery_data kind name i) ≡ false
gallery_has_none kind name i = rw (listed_has_none i.fault i.list) refl

pub items_reply_has_none : (i : Items) → has_float (items_data i) ≡ false
items_reply_has_none i = rw (listed_has_none i.fault i.list) refl

shown_has_none : (o : Option Items) (s : Shown) → has_float (shown_with o s) ≡ false
shown_has_none None s = control_has_none s.kind s.name s.values
shown_has_none (Some i) s = gallery_has_none s.kind s.name i

all_shown_have_none : (ss : List Shown) → items_have_float (items_of (map shown_data ss)) ≡ false
all_shown_have_none [] = refl
all_shown_have_none (s ∷ ss) = rw (shown_has_none s.items s) (all_shown_have_none ss)

pub view_has_none : (v : View) → has_float (view_data v) ≡ false
view_has_none v = rw (all_shown_have_none v.shown) refl

told_has_none : (d : Data) → has_float (told_data d) ≡ false
told_has_none blank = refl
told_has_none (number z) = value_has_none (number z)
told_has_none (text cs) = refl
told_has_none (boolean b) = refl
told_has_none (date z) = refl
told_has_none (rec fs) = refl
told_has_none (tab rs) = refl
told_has_none (fault k cs) = refl

pub event_has_none : (notices : List (List ℕ)) (seq : ℕ) (d : Data) → has_float (event_data notices seq d) ≡ false
event_has_none notices seq d = rw (lines_have_none notices, told_has_none d) refl
