-- What is sent by a session, when it comes again and beside other sessions.
use Rattle.std.proofs.Common.{◌≡◌, ◌≢◌, ℕ, List, Option, Some, None, Result, Ok, Err, ap, ◌∙◌, subst}
use Rattle.fx_types.specs.Values.{Data}
use Rattle.recalc.specs.app_cells.declared.app.App.{App}
use Rattle.session_state.specs.Once.{LastRequest}
use Rattle.session_state.specs.Sessions.{SessionState}
use Rattle.view_text.specs.declared.refused.Refusal.{Refusal}
use Rattle.numbered_requests.specs.Checks.{IsLastAsked, checks, if_live, session_of}
use Rattle.numbered_requests.specs.Directory.{find}
use Rattle.numbered_requests.specs.declared.directory.Named.{Named}
use Rattle.numbered_requests.proofs.Again.{comes_again}
use Rattle.numbered_requests.proofs.Directories.{find_other}
use Rattle.session_requests.specs.declared.trigger.Trigger.{Trigger}
use Rattle.session_requests.specs.declared.trigger.Trigger.TheVariants.{OnSelect}
use Rattle.session_requests.specs.Acting.{EndsEvent, EndsInput, TakesEffect, session_answered, input_trigger, item_seen, with_input, with_target}
use Rattle.session_requests.specs.Bodies.{event_in, input_in}
use Rattle.row_keeper.specs.Tables.{Tables}
use Rattle.session_requests.specs.Laws.{Repeats}
use Rattle.session_requests.specs.Posting.{PostsEvent, PostsEventChecked, PostsInput, PostsInputChecked}
use Rattle.session_requests.specs.Targets.{InputValue, input_target}
use Rattle.session_requests.specs.declared.event.Event.{Event}
use Rattle.session_requests.specs.declared.input.Input.{Input}
use Rattle.session_requests.specs.declared.target.Target.{Target}

effect_leaves : (lost : Type 0) (app : App) (moment : ℕ) (trigger : Trigger) (item : Option Data) (name other body : List ℕ) (seq : ℕ) (s : SessionState) (told : Option Tables) (sessions : List (Named SessionState)) (said : List ℕ) (told' : Option Tables) (sessions' : List (Named SessionState))
    → name ≢ other → TakesEffect lost app moment trigger item name body seq s told sessions said told' sessions' → find other sessions' ≡ find other sessions
effect_leaves lost app moment trigger item name other body seq s told sessions said told' sessions' differ h =
    ap (λ (l : List (Named SessionState)). find other l) h.kept ∙ find_other SessionState name other (session_answered seq body said h.end) sessions differ

input_ends : (lost : Type 0) (app : App) (moment : ℕ) (name other body : List ℕ) (seq : ℕ) (s : SessionState) (values : ℕ → Data) (v : Result InputValue Refusal) (told : Option Tables) (sessions : List (Named SessionState)) (said : List ℕ) (told' : Option Tables) (sessions' : List (Named SessionState))
    → name ≢ other → EndsInput lost app moment name body seq s values v told sessions said told' sessions' → find other sessions' ≡ find other sessions
input_ends lost app moment name other body seq s values (Err r) told sessions said told' sessions' differ h = ap (λ (l : List (Named SessionState)). find other l) h.1
input_ends lost app moment name other body seq s values (Ok g) told sessions said told' sessions' differ h =
    effect_leaves lost app moment (input_trigger app.names (with_input g s) values g.0) None name other body seq (with_input g s) told sessions said told' sessions' differ h

event_ends : (lost : Type 0) (app : App) (moment : ℕ) (name other body : List ℕ) (seq : ℕ) (s : SessionState) (values : ℕ → Data) (v : Result Target Refusal) (told : Option Tables) (sessions : List (Named SessionState)) (said : List ℕ) (told' : Option Tables) (sessions' : List (Named SessionState))
    → name ≢ other → EndsEvent lost app moment name body seq s values v told sessions said told' sessions' → find other sessions' ≡ find other sessions
event_ends lost app moment name other body seq s values (Err r) told sessions said told' sessions' differ h = ap (λ (l : List (Named SessionState)). find other l) h.1
event_ends lost app moment name other body seq s values (Ok t) told sessions said told' sessions' differ h =
    effect_leaves lost app moment (OnSelect t.control) (item_seen app.names values t.item) name other body seq (with_target t s) told sessions said told' sessions' differ h

input_leaves : (lost : Type 0) (app : App) (moment : ℕ) (name other body : List ℕ) (r : Result Input (List ℕ)) (told : Option Tables) (sessions : List (Named SessionState)) (said : List ℕ) (told' : Option Tables) (sessions' : List (Named SessionState))
    → name ≢ other → PostsInputChecked lost app moment name body r told sessions said told' sessions' → find other sessions' ≡ find other sessions
input_leaves lost app moment name other body (Err words) told sessions said told' sessions' differ h = ap (λ (l : List (Named SessionState)). find other l) h.1
input_leaves lost app moment name other body (Ok i) told sessions said told' sessions' differ h =
    input_ends lost app moment name other body i.seq h.session h.values (input_target app.names h.session h.values i) h.seen sessions said told' sessions' differ h.ends

event_leaves : (lost : Type 0) (app : App) (moment : ℕ) (name other body : List ℕ) (r : Result Event (List ℕ)) (told : Option Tables) (sessions : List (Named SessionState)) (said : List ℕ) (told' : Option Tables) (sessions' : List (Named SessionState))
    → name ≢ other → PostsEventChecked lost app moment name body r told sessions said told' sessions' → find other sessions' ≡ find other sessions
event_leaves lost app moment name other body (Err words) told sessions said told' sessions' differ h = ap (λ (l : List (Named SessionState)). find other l) h.1
event_leaves lost app moment name other body (Ok e) told sessions said told' sessions' differ h =
    event_ends lost app moment name other body e.seq h.session h.values h.verdict h.seen sessions said told' sessions' differ h.ends

pub others_left : (lost : Type 0) (app : App) (moment : ℕ) (name other body said : List ℕ) (told told' : Option Tables) (sessions sessions' : List (Named SessionState)) → name ≢ other
    → (PostsInput lost app moment name body told sessions said told' sessions' → find other sessions' ≡ find other sessions)
    × (PostsEvent lost app moment name body told sessions said told' sessions' → find other sessions' ≡ find other sessions)
others_left lost app moment name other body said told told' sessions sessions' differ = (
  input_leaves lost app moment name other body (checks input_in (λ (i : Input). i.seq) (session_of name sessions) body) told sessions said told' sessions' differ,
  event_leaves lost app moment name other body (checks event_in (λ (e : Event). e.seq) (session_of name sessions) body) told sessions said told' sessions' differ,
)

-- a live session is the caller that is kept of it
live : (name : List ℕ) (s : SessionState) (sessions : List (Named SessionState)) → find name sessions ≡ Some s → session_of name sessions ≡ Ok s.kept
live name s sessions e = ap if_live e

pub once : (lost : Type 0) (app : App) (moment : ℕ) (name said : List ℕ) (s : SessionState) (told told' : Option Tables) (sessions sessions' : List (Named SessionState)) → find name sessions ≡ Some s
    → (IsLastAsked Input input_in (λ (i : Input). i.seq) s.kept → PostsInput lost app moment name s.kept.body told sessions said told' sessions' → Repeats s.kept said told told' sessions sessions')
    × (IsLastAsked Event event_in (λ (e : Event). e.seq) s.kept → PostsEvent lost app moment name s.kept.body told sessions said told' sessions' → Repeats s.kept said told told' sessions sessions')
once lost app moment name said s told told' sessions sessions' e = (
  λ last h. subst (λ (r : Result Input (List ℕ)). PostsInputChecked lost app moment name s.kept.body r told sessions said told' sessions')
      (ap (λ (c : Result LastRequest ℕ). checks input_in (λ (i : Input). i.seq) c s.kept.body) (live name s sessions e) ∙ comes_again Input input_in (λ (i : Input). i.seq) s.kept last) h,
  λ last h. subst (λ (r : Result Event (List ℕ)). PostsEventChecked lost app moment name s.kept.body r told sessions said told' sessions')
      (ap (λ (c : Result LastRequest ℕ). checks event_in (λ (e : Event). e.seq) c s.kept.body) (live name s sessions e) ∙ comes_again Event event_in (λ (e : Event). e.seq) s.kept last) h,
)
