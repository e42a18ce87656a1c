-- What events and inputs act on, and which of them are refused.
use Rattle.std.specs.Prelude.{◌≡◌, ℕ, ◌==◌, ◌&&◌, ℤ, pos, int_le, nat_le, Bool, true, false, not}
use Rattle.std.specs.Prelude.{is_some, bytes_eq, List, length, codes, encode_utf8_all, Option, Some}
use Rattle.std.specs.Prelude.{None, Result, Ok, Err, slice_get, IfSome, if◌then◌else◌}
use Rattle.recalc.specs.app_cells.Spots.{item_or}
use Rattle.recalc.specs.app_semantics.Chosen.{item_id, row_at_position}
use Rattle.recalc.specs.app_semantics.Present.{items_of}
use Rattle.recalc.specs.app_semantics.Properties.{property_value}
use Rattle.fx_types.specs.Values.{Data, blank, number, text, boolean, date}
use Rattle.fx_types.specs.declared.controls.Control.{Control}
use Rattle.fx_types.specs.declared.controls.Control.TheVariants as control
use Rattle.recalc.specs.fx_semantics.Rows.{rows_in}
use Rattle.fx_value.specs.Columns.{Row}
use Rattle.fx_core.specs.Controls.{input_type, is_behaviour}
use Rattle.fx_core.specs.declared.names.ControlName.{ControlName}
use Rattle.fx_core.specs.declared.names.Names.{Names}
use Rattle.numbered_requests.specs.Replies.{plain}
use Rattle.session_state.specs.Sessions.{SessionState}
use Rattle.view_text.specs.declared.refused.Detail.TheVariants as detail
use Rattle.view_text.specs.declared.refused.Refusal.{Refusal}
use Rattle.session_requests.specs.Shown.{control_number, is_shown_or_in_shown_gallery}
use Rattle.session_requests.specs.declared.event.Event.{Event}
use Rattle.session_requests.specs.declared.event.Place.{Place}
use Rattle.session_requests.specs.declared.input.Input.{Input}
use Rattle.session_requests.specs.declared.target.Item.{Item}
use Rattle.session_requests.specs.declared.target.Target.{Target}

-- what holds goes on, and what doesn't is refused
abbrev pub or_refused : {T : Type 0} → Bool → ℕ → Result T Refusal → Result T Refusal
or_refused true code r = r
or_refused false code r = Err (plain code)

-- ---- items

abbrev pub same_id : Option ℕ → Option ℕ → Bool
same_id None None = true
same_id (Some a) (Some b) = a == b
same_id a b = false

-- the row has another id than was given (19)
abbrev pub row_moved : Option ℕ → Refusal
row_moved id = record { code = 19; detail = detail.Id id }

abbrev pub unless_moved : {T : Type 0} → Option (Option ℕ) → Option ℕ → T → Result T Refusal
unless_moved None id it = Ok it
unless_moved (Some given) id it = if same_id given id then Ok it else Err (row_moved id)

-- the row at the place, if there is one (18)
abbrev pub target_row : ℕ → ℕ → Place → Option Row → Result Target Refusal
target_row k g p None = Err (plain 18)
target_row k g p (Some r) = unless_moved p.id (item_id r)
    (record { control = k; item = Some (record { gallery = g; at = p.at; id = item_id r }) })

-- an item belongs to a gallery and to a control in one, and to no other (18)
abbrev pub with_item : Names → (ℕ → Data) → ℕ → Option Place → Option ℕ → Result Target Refusal
with_item n values k None None = Ok (record { control = k; item = None })
with_item n values k (Some p) (Some g) = target_row k g p
    (row_at_position p.at (rows_in (items_of n values g)))
with_item n values k given gallery = Err (plain 18)

abbrev pub is_gallery : Control → Bool
is_gallery control.Gallery = true
is_gallery c = false

-- the gallery whose item an event has: the one in which the control stands, or the control itself
abbrev pub event_gallery : ℕ → ControlName → Option ℕ
event_gallery k c = item_or c.gallery (is_gallery c.kind) k

-- a row of this gallery, by its position
pub record IsItemRow (n : Names) (values : ℕ → Data) (gallery : Option ℕ) (i : Item) : Type 0 where
  pub gallery_is : gallery ≡ Some i.gallery
  pub row : Row
  pub there : row_at_position i.at (rows_in (items_of n values i.gallery)) ≡ Some row

-- a control of the app, and an item of its gallery, if it has one
pub record IsTarget (n : Names) (values : ℕ → Data) (t : Target) : Type 0 where
  pub control : ControlName
  pub there : slice_get n.controls t.control ≡ Some control
  pub item : IfSome t.item (IsItemRow n values (event_gallery t.control control))
  pub alone : t.item ≡ None → event_gallery t.control control ≡ None

-- ---- events

-- only this event is sent, to what has it
abbrev pub has_event : List ℕ → Control → Bool
has_event event kind = bytes_eq (encode_utf8_all event) (codes "OnSelect")
    && is_behaviour kind (codes "OnSelect")

abbrev pub event_at : Names → SessionState → (ℕ → Data) → Event → ℕ → Option ControlName
    → Result Target Refusal
event_at n s values e k None = Err (plain 15)
event_at n s values e k (Some c) =
    or_refused (has_event e.event c.kind) 16 (or_refused
    (is_shown_or_in_shown_gallery n s values k c) 17
    (with_item n values k e.item (event_gallery k c)))

abbrev pub event_named : Names → SessionState → (ℕ → Data) → Event → Option ℕ
    → Result Target Refusal
event_named n s values e None = Err (plain 15)
event_named n s values e (Some k) = event_at n s values e k (slice_get n.controls k)

-- THE checks of an event, but for the last: no control (15), no such event (16), not shown (17), no
-- such item (18), another item (19)
abbrev pub event_target : Names → SessionState → (ℕ → Data) → Event → Result Target Refusal
event_target n s values e = event_named n s values e (control_number e.control n)

-- ---- inputs

-- the bound that a value sets, of which a blank one is 0; an error sets none
abbrev pub bound_of : Data → Option ℤ
bound_of (number z) = Some z
bound_of blank = Some (pos 0)
bound_of d = None

abbrev pub is_in_bounds : Option ℤ → Option ℤ → ℤ → Bool
is_in_bounds (Some least) (Some greatest) z = int_le least z && int_le z greatest
is_in_bounds a b z = false

-- what a control takes: a text of at most 4,096 bytes, a number within the bounds, a truth or a
-- date
abbrev pub control_takes : Control → Option ℤ → Option ℤ → Data → Bool
control_takes control.TextInput least greatest (text cs) = nat_le (length (encode_utf8_all cs)) 4096
control_takes control.Slider least greatest (number z) = is_in_bounds least greatest z
control_takes control.Checkbox least greatest (boolean b) = true
control_takes control.DatePicker least greatest (date z) = true
control_takes kind least greatest d = false

abbrev pub is_blank : Data → Bool
is_blank blank = true
is_blank d = false

-- what a user's input becomes: null takes it away, and what the control doesn't take is refused
-- (20)
abbrev pub input_by : Control → Option ℤ → Option ℤ → Option Data → Result (Option Data) Refusal
input_by kind least greatest None = Err (plain 20)
input_by kind least greatest (Some d) = if is_blank d then Ok None else
    (if control_takes kind least greatest d then Ok (Some d) else Err (plain 20))

-- the number of the control, and what its user then gave
abbrev pub InputValue : Type 0
InputValue = ℕ × Option Data

abbrev pub value_given_to : ℕ → Result (Option Data) Refusal → Result InputValue Refusal
value_given_to k (Ok v) = Ok (k, v)
value_given_to k (Err r) = Err r

-- a slider's numbers lie between its Min, 0 where that isn't written, and its Max, 100 where that
-- isn't
abbrev pub least_of : Names → (ℕ → Data) → ℕ → Option ℤ
least_of n values k = bound_of (property_value n values k (codes "Min") (number (pos 0)))

abbrev pub greatest_of : Names → (ℕ → Data) → ℕ → Option ℤ
greatest_of n values k = bound_of (property_value n values k (codes "Max") (number (pos 1000000)))

-- a control takes input where its kind does, and what stands in a gallery takes none
abbrev pub takes_input : ControlName → Bool
takes_input c = is_some (input_type c.kind) && not (is_some c.gallery)

abbrev pub input_at : Names → SessionState → (ℕ → Data) → Input → ℕ → Option ControlName
    → Result InputValue Refusal
input_at n s values i k None = Err (plain 15)
input_at n s values i k (Some c) =
    or_refused (takes_input c) 16 (or_refused (is_shown_or_in_shown_gallery n s values k c) 17
    (value_given_to k (input_by c.kind (least_of n values k) (greatest_of n values k) i.value)))

abbrev pub input_named : Names → SessionState → (ℕ → Data) → Input → Option ℕ
    → Result InputValue Refusal
input_named n s values i None = Err (plain 15)
input_named n s values i (Some k) = input_at n s values i k (slice_get n.controls k)

-- THE checks of an input: no control (15), one that takes none (16), not shown (17), and a value
-- that it doesn't take (20)
abbrev pub input_target : Names → SessionState → (ℕ → Data) → Input → Result InputValue Refusal
input_target n s values i = input_named n s values i (control_number i.control n)
