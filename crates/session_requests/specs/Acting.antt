-- What an event or an input that passed its checks does to its session and to tables.
use Rattle.std.specs.Prelude.{◌≡◌, ◌<◌, ◌++◌, ℕ, Bool, true, false, List, [], ◌∷◌, length}
use Rattle.std.specs.Prelude.{slice_get, slice_set, Option, Some, None, Result, Ok, Err}
use Rattle.std.specs.Prelude.{option_and_then, option_map}
use Rattle.std.specs.List.{position}
use Rattle.fx_types.specs.Values.{Data}
use Rattle.fx_types.specs.declared.controls.Control.{Control}
use Rattle.fx_types.specs.declared.controls.Control.TheVariants as control
use Rattle.fx_core.specs.declared.names.ControlName.{ControlName}
use Rattle.fx_core.specs.declared.names.Names.{Names}
use Rattle.recalc.specs.app_cells.declared.app.App.{App}
use Rattle.recalc.specs.app_semantics.Chosen.{row_at_position}
use Rattle.recalc.specs.app_semantics.Present.{input_of, items_of}
use Rattle.recalc.specs.app_semantics.Properties.{is_true}
use Rattle.recalc.specs.fx_semantics.Around.{record_of}
use Rattle.recalc.specs.fx_semantics.Rows.{rows_in}
use Rattle.fx_core.specs.declared.sources.Source.{Source}
use Rattle.fx_core.specs.declared.sources.Source.TheVariants as source
use Rattle.recalc.specs.Kept.{CacheState}
use Rattle.numbered_requests.specs.Directory.{find, is_named, put_named}
use Rattle.numbered_requests.specs.Replies.{refusal_reply}
use Rattle.numbered_requests.specs.declared.directory.Named.{Named}
use Rattle.row_keeper.specs.Tables.{Tables}
use Rattle.session_requests.specs.Caching.{SameSessionExcept, IsCached}
use Rattle.session_requests.specs.Requests.{Accepts, AcceptsWriting}
use Rattle.session_requests.specs.declared.trigger.Trigger.{Trigger}
use Rattle.session_requests.specs.declared.trigger.Trigger.TheVariants.{OnChange, OnCheck, OnSelect}
use Rattle.session_requests.specs.declared.trigger.Trigger.TheVariants.{OnUncheck}
use Rattle.session_state.specs.Sessions.{SessionState}
use Rattle.view_text.specs.declared.refused.Refusal.{Refusal}
use Rattle.session_requests.specs.Targets.{InputValue}
use Rattle.session_requests.specs.declared.target.Item.{Item}
use Rattle.session_requests.specs.declared.target.Target.{Target}

-- an accepted request leaves its number, its body and its reply
abbrev pub session_answered : ℕ → List ℕ → List ℕ → SessionState → SessionState
session_answered seq body said s = record s {
  kept = record {
    last = seq;
    body = body;
    reply = said;
  };
}

-- the session of a name stands at this place
pub record IsAt (place : ℕ) (name : List ℕ) (sessions : List (Named SessionState)) : Type 0 where
  pub first : position (is_named name) sessions ≡ Some place
  pub within : place < length sessions

-- WHAT IS ACCEPTED takes effect: its session, in which what is given or chosen stands already, acts
-- and is answered, and is kept with its number, its body and its reply. No other session changes.
pub record TakesEffect (lost : Type 0) (app : App) (moment : ℕ) (trigger : Trigger)
    (item : Option Data) (name body : List ℕ) (seq : ℕ) (s : SessionState) (told : Option Tables)
    (sessions : List (Named SessionState)) (said : List ℕ) (told' : Option Tables)
    (sessions' : List (Named SessionState)) : Type 0 where
  pub end : SessionState
  pub accepts : Accepts lost app moment trigger item seq s told said told' end
  pub kept : sessions' ≡ put_named name (session_answered seq body said end) sessions

-- what is refused leaves all
abbrev pub RefusalLeavesAll : Refusal → Option Tables → List (Named SessionState) → List ℕ
    → Option Tables → List (Named SessionState) → Type 0
RefusalLeavesAll r told sessions said told' sessions'
    = (said ≡ refusal_reply r) × (sessions' ≡ sessions) × (told' ≡ told)

-- a session is the one that is kept under this name but in these sources, and of that one the cache
-- stands
pub record IsBefore (app : App) (name : List ℕ) (ws : List Source) (s : SessionState)
    (told : Option Tables) (moment : ℕ) (c : CacheState) (sessions : List (Named SessionState)) :
    Type 0 where
  pub before : SessionState
  pub found : find name sessions ≡ Some before
  pub cached : IsCached app before told moment c
  pub but : SameSessionExcept app.names ws before s

-- ---- inputs

-- a user gives a value, or takes it away
abbrev pub with_input : InputValue → SessionState → SessionState
with_input g s = record s { inputs = slice_set s.inputs g.0 g.1 }

-- what acts as a user's input is accepted: of a box whether it is then checked decides
abbrev pub trigger_of : Control → ℕ → Bool → Trigger
trigger_of control.Checkbox k true = OnCheck k
trigger_of control.Checkbox k false = OnUncheck k
trigger_of kind k checked = OnChange k

abbrev pub trigger_at : Option ControlName → ℕ → Bool → Trigger
trigger_at (Some c) k checked = trigger_of c.kind k checked
trigger_at None k checked = OnChange k

-- the same for a session in which the input stands, where cells have these values
abbrev pub input_trigger : Names → SessionState → (ℕ → Data) → ℕ → Trigger
input_trigger n s values k = trigger_at (slice_get n.controls k) k (is_true (input_of n s values k))

-- an input ends: by its `OnChange`, `OnCheck` or `OnUncheck`, or refused
abbrev pub EndsInput : Type 0 → App → ℕ → List ℕ → List ℕ → ℕ → SessionState → (ℕ → Data)
    → Result InputValue Refusal → Option Tables → List (Named SessionState) → List ℕ → Option Tables
    → List (Named SessionState) → Type 0
EndsInput lost app moment name body seq s values (Err r) told sessions said told' sessions'
    = RefusalLeavesAll r told sessions said told' sessions'
EndsInput lost app moment name body seq s values (Ok g) told sessions said told' sessions' =
    TakesEffect lost app moment (input_trigger app.names (with_input g s) values g.0) None name body
    seq (with_input g s) told sessions said told' sessions'

-- ---- events

-- what is chosen where an item is
abbrev pub item_chosen : Option Item → List Source
item_chosen None = []
item_chosen (Some i) = source.Chosen i.gallery ∷ []

-- an item becomes the chosen one of its gallery
abbrev pub with_item_chosen : Option Item → SessionState → SessionState
with_item_chosen None s = s
with_item_chosen (Some i) s = record s { chosen = slice_set s.chosen i.gallery (Some (i.at, i.id)) }

abbrev pub with_target : Target → SessionState → SessionState
with_target t s = with_item_chosen t.item s

-- the row of an item, as a record
abbrev pub item_seen : Names → (ℕ → Data) → Option Item → Option Data
item_seen n values o = option_and_then (λ (i : Item). option_map
    record_of (row_at_position i.at (rows_in (items_of n values i.gallery)))) o

-- an event ends: by the `OnSelect` of its control, which sees the item, or refused
abbrev pub EndsEvent : Type 0 → App → ℕ → List ℕ → List ℕ → ℕ → SessionState → (ℕ → Data)
    → Result Target Refusal → Option Tables → List (Named SessionState) → List ℕ → Option Tables
    → List (Named SessionState) → Type 0
EndsEvent lost app moment name body seq s values (Err r) told sessions said told' sessions'
    = RefusalLeavesAll r told sessions said told' sessions'
EndsEvent lost app moment name body seq s values (Ok t) told sessions said told' sessions' =
    TakesEffect lost app moment (OnSelect t.control) (item_seen app.names values t.item) name body
    seq (with_target t s) told sessions said told' sessions'

-- ---- what is written

-- what is given or chosen, and then what the request writes
abbrev pub EffectWrites : Type 0 → App → ℕ → Trigger → Option Data → List Source → SessionState
    → Option Tables → Option Tables → List Source → Type 0
EffectWrites lost app moment trigger item given s told told' xs
    = (ws : List Source) × (xs ≡ given ++ ws)
    × AcceptsWriting lost app moment trigger item s told told' ws

-- an input writes what is given and what acts, or nothing where it is refused
abbrev pub InputWrites : Type 0 → App → ℕ → SessionState → (ℕ → Data) → Result InputValue Refusal
    → Option Tables → Option Tables → List Source → Type 0
InputWrites lost app moment s values (Err r) told told' xs = xs ≡ []
InputWrites lost app moment s values (Ok g) told told' xs =
    EffectWrites lost app moment (input_trigger app.names (with_input g s) values g.0) None
    (source.Input g.0 ∷ []) (with_input g s) told told' xs

-- and so does an event what it chooses and what acts
abbrev pub EventWrites : Type 0 → App → ℕ → SessionState → (ℕ → Data) → Result Target Refusal
    → Option Tables → Option Tables → List Source → Type 0
EventWrites lost app moment s values (Err r) told told' xs = xs ≡ []
EventWrites lost app moment s values (Ok t) told told' xs =
    EffectWrites lost app moment (OnSelect t.control) (item_seen app.names values t.item)
    (item_chosen t.item) (with_target t s) told told' xs
