-- A session sends events and inputs.
use Rattle.std.specs.Prelude.{◌≡◌, ◌⊎◌, ℕ, Bool, true, List, codes, Option, Some, None, Result, Ok}
use Rattle.std.specs.Prelude.{Err, slice_get, option_and_then, unwrap_or}
use Rattle.std.specs.List.{AllByRecursion}
use Rattle.recalc.specs.app_cells.Leaning.{LeansOn, cell_of_property, default_cell}
use Rattle.recalc.specs.app_cells.declared.app.App.{App}
use Rattle.recalc.specs.app_cells.declared.app.CellInfo.{CellInfo}
use Rattle.recalc.specs.app_semantics.Chosen.{row_at_position}
use Rattle.recalc.specs.app_semantics.Present.{Present, items_of, present}
use Rattle.recalc.specs.app_semantics.Properties.{IsPropertyForItem, is_true}
use Rattle.fx_types.specs.Values.{Data, boolean}
use Rattle.recalc.specs.fx_semantics.Around.{record_of}
use Rattle.recalc.specs.fx_semantics.Rows.{rows_in}
use Rattle.fx_value.specs.Columns.{Row as Fields}
use Rattle.fx_core.specs.declared.names.ControlName.{ControlName}
use Rattle.fx_core.specs.declared.names.Names.{Names}
use Rattle.fx_core.specs.declared.sources.Source.{Source}
use Rattle.numbered_requests.specs.Checks.{checks, session_of}
use Rattle.numbered_requests.specs.Directory.{find}
use Rattle.numbered_requests.specs.declared.directory.Named.{Named}
use Rattle.fx_base.specs.Silence.{MayFallSilent}
use Rattle.fx_base.specs.Telling.{Stays}
use Rattle.row_keeper.specs.Tables.{Tables, rows_told}
use Rattle.session_state.specs.Changes.{FitsNames}
use Rattle.session_state.specs.Sessions.{SessionState}
use Rattle.view_text.specs.declared.refused.Refusal.{Refusal}
use Rattle.session_requests.specs.Acting.{EndsEvent, EndsInput, EventWrites, InputWrites}
use Rattle.session_requests.specs.Bodies.{event_in, input_in}
use Rattle.session_requests.specs.Caching.{AreFreshAt}
use Rattle.session_requests.specs.Shown.{control_number}
use Rattle.session_requests.specs.Targets.{event_target, input_target, or_refused}
use Rattle.session_requests.specs.declared.event.Event.{Event}
use Rattle.session_requests.specs.declared.input.Input.{Input}
use Rattle.session_requests.specs.declared.target.Item.{Item}
use Rattle.session_requests.specs.declared.target.Target.{Target}

-- each session fits the names of an app
abbrev pub SessionsFit : Names → List (Named SessionState) → Type 0
SessionsFit n sessions = AllByRecursion (λ (x : Named SessionState). FitsNames n x.it) sessions

-- ---- what checks look at

-- the gallery that a control stands in
abbrev pub gallery_around : App → ℕ → Option ℕ
gallery_around app k = option_and_then (λ (c : ControlName). c.gallery)
    (slice_get app.names.controls k)

-- what a control is shown by: the gallery in which it stands, and else the control itself
abbrev pub shown_by : App → ℕ → ℕ
shown_by app k = unwrap_or (gallery_around app k) k

-- the formula of a control's property stands in this cell
abbrev pub IsPropertyAt : App → ℕ → List ℕ → ℕ → Type 0
IsPropertyAt app k name d = cell_of_property app.names k name ≡ Some d

-- the formula that says whether a control is visible leans on this cell
abbrev pub VisibleLeansOn : App → ℕ → ℕ → Type 0
VisibleLeansOn app k d = (j : ℕ) × (c : CellInfo) × IsPropertyAt app k (codes "Visible") j
    × (slice_get app.cells j ≡ Some c) × LeansOn app.names c d

-- The checks of an input look at whether its control is shown, at the bounds of it, and at its
-- default.
abbrev pub InputLooksAt : App → Input → ℕ → Type 0
InputLooksAt app i d =
    (k : ℕ) × (control_number i.control app.names ≡ Some k)
    × (IsPropertyAt app (shown_by app k) (codes "Visible") d
    ⊎ (IsPropertyAt app k (codes "Min") d ⊎ (IsPropertyAt app k (codes "Max") d
    ⊎ (default_cell app.names k ≡ Some d))))

-- The checks of an event look at whether its control is shown, at the items of its gallery, and for
-- an item at what says whether the control is visible.
abbrev pub EventLooksAt : App → Event → ℕ → Type 0
EventLooksAt app e d =
    (k : ℕ) × (control_number e.control app.names ≡ Some k)
    × (IsPropertyAt app (shown_by app k) (codes "Visible") d
    ⊎ (IsPropertyAt app (shown_by app k) (codes "Items") d ⊎ VisibleLeansOn app k d))

-- ---- inputs

-- An input that passed the checks of numbered requests: its session is live. `seen` is told as the
-- other checks are made, in which the formulas have fresh values that these look at.
pub record SendsInput (lost : Type 0) (app : App) (moment : ℕ) (name body : List ℕ) (i : Input)
    (told : Option Tables) (sessions : List (Named SessionState)) (said : List ℕ)
    (told' : Option Tables) (sessions' : List (Named SessionState)) : Type 0 where
  pub session : SessionState
  pub found : find name sessions ≡ Some session
  pub seen : Option Tables
  pub stays : MayFallSilent lost Stays told seen
  pub values : ℕ → Data
  pub fresh : ∥ AreFreshAt (present app session (rows_told seen) moment) (InputLooksAt app i) values
      ∥₁
  pub ends : EndsInput lost app moment name body i.seq session values
      (input_target app.names session values i) seen sessions said told' sessions'

-- which sources it writes
abbrev pub SendsInputWriting : Type 0 → App → ℕ → List ℕ → List ℕ → Input → Option Tables
    → List (Named SessionState) → List ℕ → Option Tables → List (Named SessionState) → List Source
    → Type 0
SendsInputWriting lost app moment name body i told sessions said told' sessions' xs =
    (h : SendsInput lost app moment name body i told sessions said told' sessions')
    × InputWrites lost app moment h.session h.values (input_target app.names h.session h.values i)
    h.seen told' xs

abbrev pub PostsInputChecked : Type 0 → App → ℕ → List ℕ → List ℕ → Result Input (List ℕ)
    → Option Tables → List (Named SessionState) → List ℕ → Option Tables → List (Named SessionState)
    → Type 0
PostsInputChecked lost app moment name body (Err words) told sessions said told' sessions'
    = (said ≡ words) × (sessions' ≡ sessions) × (told' ≡ told)
PostsInputChecked lost app moment name body (Ok i) told sessions said told' sessions'
    = SendsInput lost app moment name body i told sessions said told' sessions'

-- THE route of inputs
abbrev pub PostsInput : Type 0 → App → ℕ → List ℕ → List ℕ → Option Tables
    → List (Named SessionState) → List ℕ → Option Tables → List (Named SessionState) → Type 0
PostsInput lost app moment name body told sessions said told' sessions' =
    PostsInputChecked lost app moment name body
    (checks input_in (λ (i : Input). i.seq) (session_of name sessions) body) told sessions said
    told' sessions'

-- the checks that call no keeper are passed
abbrev pub ReachesInput : List ℕ → List ℕ → List (Named SessionState) → Type 0
ReachesInput name body sessions = (i : Input)
    × (checks input_in (λ (i : Input). i.seq) (session_of name sessions) body ≡ Ok i)

-- ---- events

-- the control is visible for the item at this position of the gallery
pub record IsVisibleFor (p : Present) (values : ℕ → Data) (k gallery at : ℕ) (b : Bool) :
    Type 0 where
  pub row : Fields
  pub there : row_at_position at (rows_in (items_of p.app.names values gallery)) ≡ Some row
  pub value : Data
  pub is_value : IsPropertyForItem p values (record_of row) k (codes "Visible") (boolean true) value
  pub is : b ≡ is_true value

-- whether a control that stands in a gallery is visible for the item; of another control nothing is
-- left to ask
abbrev pub IsShownToUser : Present → (ℕ → Data) → ℕ → Option ℕ → Option Item → Bool → Type 0
IsShownToUser p values k (Some gallery) (Some item) b = IsVisibleFor p values k gallery item.at b
IsShownToUser p values k (Some gallery) None b = b ≡ true
IsShownToUser p values k None item b = b ≡ true

-- the last check of an event: the control is shown for the item (17)
abbrev pub IsVerdict : Present → (ℕ → Data) → Result Target Refusal → Result Target Refusal → Type 0
IsVerdict p values (Err r) v = v ≡ Err r
IsVerdict p values (Ok t) v = (b : Bool) × IsShownToUser p values t.control
    (gallery_around p.app t.control) t.item b × (v ≡ or_refused b 17 (Ok t))

-- an event that passed the checks of numbered requests
pub record SendsEvent (lost : Type 0) (app : App) (moment : ℕ) (name body : List ℕ) (e : Event)
    (told : Option Tables) (sessions : List (Named SessionState)) (said : List ℕ)
    (told' : Option Tables) (sessions' : List (Named SessionState)) : Type 0 where
  pub session : SessionState
  pub found : find name sessions ≡ Some session
  pub seen : Option Tables
  pub stays : MayFallSilent lost Stays told seen
  pub values : ℕ → Data
  pub fresh : ∥ AreFreshAt (present app session (rows_told seen) moment) (EventLooksAt app e) values
      ∥₁
  pub verdict : Result Target Refusal
  pub judged : IsVerdict (present app session (rows_told seen) moment) values
      (event_target app.names session values e) verdict
  pub ends : EndsEvent lost app moment name body e.seq session values verdict seen sessions said
      told' sessions'

-- which sources it writes
abbrev pub SendsEventWriting : Type 0 → App → ℕ → List ℕ → List ℕ → Event → Option Tables
    → List (Named SessionState) → List ℕ → Option Tables → List (Named SessionState) → List Source
    → Type 0
SendsEventWriting lost app moment name body e told sessions said told' sessions' xs =
    (h : SendsEvent lost app moment name body e told sessions said told' sessions')
    × EventWrites lost app moment h.session h.values h.verdict h.seen told' xs

abbrev pub PostsEventChecked : Type 0 → App → ℕ → List ℕ → List ℕ → Result Event (List ℕ)
    → Option Tables → List (Named SessionState) → List ℕ → Option Tables → List (Named SessionState)
    → Type 0
PostsEventChecked lost app moment name body (Err words) told sessions said told' sessions'
    = (said ≡ words) × (sessions' ≡ sessions) × (told' ≡ told)
PostsEventChecked lost app moment name body (Ok e) told sessions said told' sessions'
    = SendsEvent lost app moment name body e told sessions said told' sessions'

-- THE route of events
abbrev pub PostsEvent : Type 0 → App → ℕ → List ℕ → List ℕ → Option Tables
    → List (Named SessionState) → List ℕ → Option Tables → List (Named SessionState) → Type 0
PostsEvent lost app moment name body told sessions said told' sessions' =
    PostsEventChecked lost app moment name body
    (checks event_in (λ (e : Event). e.seq) (session_of name sessions) body) told sessions said
    told' sessions'

-- the checks that call no keeper are passed
abbrev pub ReachesEvent : List ℕ → List ℕ → List (Named SessionState) → Type 0
ReachesEvent name body sessions = (e : Event)
    × (checks event_in (λ (e : Event). e.seq) (session_of name sessions) body ≡ Ok e)
