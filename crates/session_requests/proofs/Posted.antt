-- Inputs and events from their checks to what they leave.
use Rattle.std.proofs.Common.{◌≡◌, ℕ, ◌<◌, Bool, true, false, List, Option, Some, None, Result, Ok, Err, refl, ap, sym, ◌∙◌, subst, length, map}
use Rattle.std.specs.Prelude.{IfOk, IfSome, option_map, unwrap_or}
use Rattle.fx_types.specs.ValueView.{view}
use Rattle.fx_types.specs.Values.{Data, blank}
use Rattle.fx_types.specs.declared.values.Value.{Value}
use Rattle.fx_core.specs.Lawful.{IsLawful}
use Rattle.fx_core.specs.declared.names.Names.{Names}
use Rattle.fx_core.specs.declared.sources.Source.TheVariants as source
use Rattle.recalc.specs.app_cells.declared.app.App.{App}
use Rattle.recalc.specs.app_semantics.Present.{Present}
use Rattle.recalc.specs.Reading.{cell_value}
use Rattle.recalc.specs.Values.{CellValues, value_of}
use Rattle.row_keeper.specs.Tables.{Tables}
use Rattle.session_state.specs.Changes.{FitsNames, FitsSource}
use Rattle.session_state.specs.Sessions.{SessionState}
use Rattle.view_text.specs.declared.refused.Refusal.{Refusal}
use Rattle.fx_base.specs.Silence.{MayFallSilent, IsLater, SilenceCause, Marks}
use Rattle.fx_base.specs.Telling.{Stays}
use Rattle.fx_base.proofs.Silences.{lost_before, lost_more}
use Rattle.numbered_requests.specs.Replies.{said}
use Rattle.numbered_requests.specs.declared.directory.Named.{Named}
use Rattle.numbered_requests.specs.declared.reply.Reply.{Reply}
use Rattle.session_requests.specs.Requests.{Accepts}
use Rattle.session_requests.specs.Running.{Runs}
use Rattle.session_requests.specs.Scenes.{begun, scene}
use Rattle.session_requests.specs.declared.trigger.Trigger.{Trigger}
use Rattle.session_requests.specs.declared.trigger.Trigger.TheVariants.{OnSelect}
use Rattle.session_requests.specs.Acting.{EndsEvent, EndsInput, TakesEffect, input_trigger, item_seen, with_input, with_target}
use Rattle.session_requests.specs.Posting.{IsShownToUser, IsVerdict, gallery_around}
use Rattle.session_requests.specs.Shown.{cell_values}
use Rattle.session_requests.specs.Targets.{InputValue, IsTarget, event_target, input_target, or_refused}
use Rattle.session_requests.specs.declared.event.Event.{Event}
use Rattle.session_requests.specs.declared.input.Input.{Input}
use Rattle.session_requests.specs.declared.target.Item.{Item}
use Rattle.session_requests.specs.declared.target.Target.{Target}
use Rattle.session_requests.proofs.Items.{item_within, target_is}
use Rattle.session_requests.proofs.Judging.{IsTaker, given_fits, taker_is}

-- ---- the values of cells are those that are lent

pub input_over : (n : Names) (s : SessionState) (i : Input) (vs : List Value) (w : CellValues) (r : Result InputValue Refusal) → map view vs ≡ w.cells → r ≡ input_target n s (cell_values vs) i → r ≡ input_target n s (value_of w) i
input_over n s i vs w r same is = is ∙ ap (λ (ds : List Data). input_target n s (cell_value ds) i) same

pub target_over : (n : Names) (s : SessionState) (e : Event) (vs : List Value) (w : CellValues) (r : Result Target Refusal) → map view vs ≡ w.cells → r ≡ event_target n s (cell_values vs) e → r ≡ event_target n s (value_of w) e
target_over n s e vs w r same is = is ∙ ap (λ (ds : List Data). event_target n s (cell_value ds) e) same

pub item_over : {E : Type 0} (n : Names) (vs : List Value) (w : CellValues) (i : Option Item) (r : Result (Option Value) E) → map view vs ≡ w.cells
    → IfOk r (λ (o : Option Value). option_map view o ≡ item_seen n (cell_values vs) i) → IfOk r (λ (o : Option Value). option_map view o ≡ item_seen n (value_of w) i)
item_over n vs w i r same h = subst (λ (ds : List Data). IfOk r (λ (o : Option Value). option_map view o ≡ item_seen n (cell_value ds) i)) same h

-- what is let through
pub of_ok : {T E : Type 0} (P : T → Type 0) (r : Result T E) (x : T) → IfOk r P → r ≡ Ok x → P x
of_ok P r x h e = subst (λ q. IfOk q P) e h

-- ---- what becomes of an event

pub refused : (p : Present) (n : Names) (s : SessionState) (e : Event) (vs : List Value) (w : CellValues) (r : Result Target Refusal) (f : Refusal)
    → map view vs ≡ w.cells → r ≡ event_target n s (cell_values vs) e → r ≡ Err f → IsVerdict p (value_of w) (event_target n s (value_of w) e) (Err f)
refused p n s e vs w r f same is out = subst (λ (q : Result Target Refusal). IsVerdict p (value_of w) q (Err f)) (sym out ∙ target_over n s e vs w r same is) refl

pub let_through : (p : Present) (n : Names) (s : SessionState) (e : Event) (vs : List Value) (w : CellValues) (r : Result Target Refusal) (t : Target) (b : Bool) (v : Result Target Refusal)
    → map view vs ≡ w.cells → r ≡ event_target n s (cell_values vs) e → r ≡ Ok t → IsShownToUser p (value_of w) t.control (gallery_around p.app t.control) t.item b → v ≡ or_refused b 17 (Ok t)
    → IsVerdict p (value_of w) (event_target n s (value_of w) e) v
let_through p n s e vs w r t b v same is out shown verdict =
    subst (λ (q : Result Target Refusal). IsVerdict p (value_of w) q v) (sym out ∙ target_over n s e vs w r same is) (b, shown, verdict)

pub is_target : (n : Names) (s : SessionState) (e : Event) (vs : List Value) (w : CellValues) (r : Result Target Refusal) (t : Target)
    → map view vs ≡ w.cells → r ≡ event_target n s (cell_values vs) e → r ≡ Ok t → IsTarget n (value_of w) t
is_target n s e vs w r t same is out = target_is n s (value_of w) e t (sym (target_over n s e vs w r same is) ∙ out)

pub still_target : (n : Names) (w : CellValues) (t : Target) (b : Bool) (v : Result Target Refusal) → IsTarget n (value_of w) t → v ≡ or_refused b 17 (Ok t) → IfOk v (IsTarget n (value_of w))
still_target n w t true v h e = subst (λ (q : Result Target Refusal). IfOk q (IsTarget n (value_of w))) (sym e) h
still_target n w t false v h e = subst (λ (q : Result Target Refusal). IfOk q (IsTarget n (value_of w))) (sym e) tt

-- ---- a session has a place for what is given and chosen

-- an input was judged so
abbrev pub IsJudged : Names → SessionState → (ℕ → Data) → Result InputValue Refusal → Type 0
IsJudged n s values v = (i : Input) × (v ≡ input_target n s values i)

pub given_of : (n : Names) (s : SessionState) (values : ℕ → Data) (v : Result InputValue Refusal) (g : InputValue) → IsJudged n s values v → v ≡ Ok g → FitsSource n (source.Input g.0) (unwrap_or g.1 blank)
given_of n s values v g h e = given_fits n s values h.0 g (sym h.1 ∙ e)

pub taker_of : (n : Names) (s : SessionState) (values : ℕ → Data) (v : Result InputValue Refusal) (g : InputValue) → IsJudged n s values v → v ≡ Ok g → IsTaker n g.0
taker_of n s values v g h e = taker_is n s values h.0 g (sym h.1 ∙ e)

pub has_input : (n : Names) (s : SessionState) (g : InputValue) → FitsNames n s → FitsSource n (source.Input g.0) (unwrap_or g.1 blank) → g.0 < length s.inputs
has_input n s g f h = f.sources_held (source.Input g.0) h.0 tt h.1

pub has_gallery : (n : Names) (values : ℕ → Data) (s : SessionState) (t : Target) → IsLawful n → FitsNames n s → IsTarget n values t → IfSome t.item (λ (i : Item). i.gallery < length s.chosen)
has_gallery n values s t lawful f h = by t.item (item_within n values t lawful h)
  where
    by : (o : Option Item) → IfSome o (λ (i : Item). i.gallery < length n.controls) → IfSome o (λ (i : Item). i.gallery < length s.chosen)
    by None q = tt
    by (Some i) q = subst (λ k. i.gallery < k) (sym f.controls) q

-- ---- what takes effect, takes effect

-- what is lost later was lost
lost_so : {A : Type 0} (lost lost' : Type 0) (P : A → A → Type 0) → (lost → lost') → (x y : Option A) → MayFallSilent lost P x y → MayFallSilent lost' P x y
lost_so lost lost' P more None y h = h
lost_so lost lost' P more (Some a) None h = more h
lost_so lost lost' P more (Some a) (Some b) h = h

effect_lost : (k l m : Marks) (app : App) (moment : ℕ) (trigger : Trigger) (item : Option Data) (name body : List ℕ) (seq : ℕ) (s : SessionState) (told told' : Option Tables) (sessions sessions' : List (Named SessionState)) (said : List ℕ)
    → IsLater k l → TakesEffect (SilenceCause l m) app moment trigger item name body seq s told sessions said told' sessions' → TakesEffect (SilenceCause k m) app moment trigger item name body seq s told sessions said told' sessions'
effect_lost k l m app moment trigger item name body seq s told told' sessions sessions' said later h = record {
  end = h.end;
  accepts = record {
    value = h.accepts.value;
    end = h.accepts.end;
    runs = lost_so (SilenceCause l m) (SilenceCause k m) (λ (t u : Tables). Runs app moment trigger item (scene t (begun s)) h.accepts.value (scene u h.accepts.end)) (lost_before k l m later) told told' h.accepts.runs;
    said_is = h.accepts.said_is;
    left = h.accepts.left;
    fits = h.accepts.fits;
  };
  kept = h.kept;
}

pub input_lost : (k l m : Marks) (app : App) (moment : ℕ) (name body : List ℕ) (seq : ℕ) (s : SessionState) (values : ℕ → Data) (v : Result InputValue Refusal) (told told' : Option Tables) (sessions sessions' : List (Named SessionState)) (said : List ℕ)
    → IsLater k l → EndsInput (SilenceCause l m) app moment name body seq s values v told sessions said told' sessions' → EndsInput (SilenceCause k m) app moment name body seq s values v told sessions said told' sessions'
input_lost k l m app moment name body seq s values (Err r) told told' sessions sessions' said later h = h
input_lost k l m app moment name body seq s values (Ok g) told told' sessions sessions' said later h =
    effect_lost k l m app moment (input_trigger app.names (with_input g s) values g.0) None name body seq (with_input g s) told told' sessions sessions' said later h

pub event_lost : (k l m : Marks) (app : App) (moment : ℕ) (name body : List ℕ) (seq : ℕ) (s : SessionState) (values : ℕ → Data) (v : Result Target Refusal) (told told' : Option Tables) (sessions sessions' : List (Named SessionState)) (said : List ℕ)
    → IsLater k l → EndsEvent (SilenceCause l m) app moment name body seq s values v told sessions said told' sessions' → EndsEvent (SilenceCause k m) app moment name body seq s values v told sessions said told' sessions'
event_lost k l m app moment name body seq s values (Err r) told told' sessions sessions' said later h = h
event_lost k l m app moment name body seq s values (Ok t) told told' sessions sessions' said later h =
    effect_lost k l m app moment (OnSelect t.control) (item_seen app.names values t.item) name body seq (with_target t s) told told' sessions sessions' said later h

-- an event that was let through takes effect
pub event_ends : {E : Type 0} (lost : Type 0) (app : App) (moment : ℕ) (name body : List ℕ) (seq : ℕ) (s r : SessionState) (values : ℕ → Data) (v : Result Target Refusal) (t : Target) (item : Option Data) (told told' : Option Tables) (sessions sessions' : List (Named SessionState)) (result : Result Reply E)
    → v ≡ Ok t → item ≡ item_seen app.names values t.item → r ≡ with_target t s
    → IfOk result (λ (y : Reply). TakesEffect lost app moment (OnSelect t.control) item name body seq r told sessions (said y) told' sessions')
    → IfOk result (λ (y : Reply). EndsEvent lost app moment name body seq s values v told sessions (said y) told' sessions')
event_ends lost app moment name body seq s r values v t item told told' sessions sessions' result is sees chosen h =
    subst (λ (q : Result Target Refusal). IfOk result (λ (y : Reply). EndsEvent lost app moment name body seq s values q told sessions (said y) told' sessions')) (sym is)
    (subst (λ (o : Option Data). IfOk result (λ (y : Reply). TakesEffect lost app moment (OnSelect t.control) o name body seq (with_target t s) told sessions (said y) told' sessions')) sees
    (subst (λ (q : SessionState). IfOk result (λ (y : Reply). TakesEffect lost app moment (OnSelect t.control) item name body seq q told sessions (said y) told' sessions')) chosen h))

-- what is told stays told, where no more was lost
pub stays_lost : (k l m : Marks) → IsLater l m → (x y : Option Tables) → MayFallSilent (SilenceCause k l) Stays x y → MayFallSilent (SilenceCause k m) Stays x y
stays_lost k l m later x y h = lost_so (SilenceCause k l) (SilenceCause k m) Stays (lost_more k l m later) x y h
