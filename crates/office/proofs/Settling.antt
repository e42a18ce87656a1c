-- Requests leave an office settled.
use Rattle.std.proofs.Common.{◌≡◌, ◌⊎◌, ℕ, inl, inr, List, [], ◌∷◌, Option, Some, None, Result, Ok, Err, refl, ap, sym, ◌∙◌, subst}
use Rattle.fx_base.specs.Silence.{SilenceCause, Marks}
use Rattle.fx_types.specs.Values.{Data}
use Rattle.fx_core.specs.declared.names.Names.{Names}
use Rattle.app_cells.specs.declared.app.App.{App}
use Rattle.app_loader.specs.app_texts.Frames.{app_frame}
use Rattle.app_loader.specs.app_semantics.Sound.{IsSoundApp}
use Rattle.app_wire.specs.Framing.{Asked}
use Rattle.app_wire.specs.Routing.{Routing}
use Rattle.app_wire.specs.declared.route.Route.{Route}
use Rattle.app_wire.specs.declared.route.Route.TheVariants.{Begin, End, View, Named as Shown, Items, Event, Input, Rows, Edit, Replace, Page, Plan, Graph}
use Rattle.app_wire.specs.declared.route.RouteEnd.{RouteEnd}
use Rattle.app_wire.specs.declared.route.RouteEnd.TheVariants.{NoRoute, WrongMethod, Memory}
use Rattle.row_keeper.specs.Tables.{Tables}
use Rattle.session_requests.specs.Opening.{CanOpen}
use Rattle.session_requests.specs.declared.trigger.Trigger.{Trigger}
use Rattle.session_requests.specs.declared.trigger.Trigger.TheVariants.{OnSelect}
use Rattle.session_state.specs.Changes.{FitsNames}
use Rattle.session_state.specs.Sessions.{SessionState}
use Rattle.view_text.specs.declared.refused.Refusal.{Refusal}
use Rattle.numbered_requests.specs.Checks.{checks, session_of}
use Rattle.numbered_requests.specs.declared.directory.Named.{Named}
use Rattle.session_requests.specs.Bodies.{event_in, input_in}
use Rattle.session_requests.specs.Acting.{EndsEvent, EndsInput, TakesEffect, session_answered, input_trigger, item_seen, with_input, with_target}
use Rattle.session_requests.specs.Posting.{PostsEvent, PostsEventChecked, PostsInput, PostsInputChecked}
use Rattle.session_requests.specs.Targets.{InputValue as Value, input_target}
use Rattle.session_requests.specs.declared.event.Event.{Event as Sent}
use Rattle.session_requests.specs.declared.input.Input.{Input as Given}
use Rattle.session_requests.specs.declared.target.Target.{Target}
use Rattle.office.specs.Answers.{Exchange, Plays}
use Rattle.office.specs.Editing.{IsReplacement, KeepsApp}
use Rattle.session_views.specs.Shows.{LiveSessionsFit}
use Rattle.office.specs.Ready.{IsSettledOffice}
use Rattle.office.specs.Refused.{IsRefused}
use Rattle.office.specs.Replacing.{PostsApp}
use Rattle.office.specs.Sessions.{BeginsChecked, BeginsSession, begin_checks, sessions_without}
use Rattle.office.specs.Settled.{KeepApps}
use Rattle.office.specs.State.{OfficeState, started}
use Rattle.office.specs.Step.{AnswersRequest, RouteStep, RoutedStep, office_parts}
use Rattle.office.proofs.Directories.{put_all, without_all}
use Rattle.office.specs.DeskEdits.{PostsEdit, all_carried, seq_data}
use Rattle.serde_json.specs.Written.{compact_text}
use Rattle.office.proofs.Edits.{alike, can_open, carried_fit}
use Rattle.office.proofs.Repeats.{carries_sessions}
use Rattle.office.proofs.Replacements.{Outcome, outcome}
use Rattle.office.proofs.Served.{over_fit}

-- ---- the sessions

begin_fits : (lost : Type 0) (app : App) (moment : ℕ) (name said : List ℕ) (told told' : Option Tables) (xs ys : List (Named SessionState))
    → LiveSessionsFit app.names xs → BeginsSession lost app moment name told xs said told' ys → LiveSessionsFit app.names ys
begin_fits lost app moment name said told told' xs ys fit h = by (begin_checks name xs) h
  where
    by : (o : Option (List ℕ)) → BeginsChecked lost app moment name o told xs said told' ys → LiveSessionsFit app.names ys
    by (Some words) k = subst (λ (l : List (Named SessionState)). LiveSessionsFit app.names l) (sym k.2) fit
    by None k =
        subst (λ (l : List (Named SessionState)). LiveSessionsFit app.names l) (sym k.keeps)
        (put_all SessionState (λ (s : Named SessionState). FitsNames app.names s.it) name k.session xs fit k.opens.fits)

end_fits : (n : Names) (name : List ℕ) (xs : List (Named SessionState)) → LiveSessionsFit n xs → LiveSessionsFit n (sessions_without name xs)
end_fits n name xs fit = without_all SessionState (λ (s : Named SessionState). FitsNames n s.it) name xs fit

-- what is accepted leaves a session that fits
effect_fits : (lost : Type 0) (app : App) (moment : ℕ) (trigger : Trigger) (item : Option Data) (name body said : List ℕ) (seq : ℕ) (s : SessionState) (told told' : Option Tables) (xs ys : List (Named SessionState))
    → LiveSessionsFit app.names xs → TakesEffect lost app moment trigger item name body seq s told xs said told' ys → LiveSessionsFit app.names ys
effect_fits lost app moment trigger item name body said seq s told told' xs ys fit h =
    let end : SessionState = session_answered seq body said h.end in
    let fits : FitsNames app.names h.end = (h.accepts).fits in
    subst (λ (l : List (Named SessionState)). LiveSessionsFit app.names l) (sym h.kept)
    (put_all SessionState (λ (x : Named SessionState). FitsNames app.names x.it) name end xs fit
    (record { screen = fits.screen; controls = fits.controls; sources_held = fits.sources_held; values_fit = fits.values_fit; spare = fits.spare }))

same_fit : (n : Names) (xs ys : List (Named SessionState)) → LiveSessionsFit n xs → ys ≡ xs → LiveSessionsFit n ys
same_fit n xs ys fit e = subst (λ (l : List (Named SessionState)). LiveSessionsFit n l) (sym e) fit

input_fits : (lost : Type 0) (app : App) (moment : ℕ) (name body said : List ℕ) (told told' : Option Tables) (xs ys : List (Named SessionState))
    → LiveSessionsFit app.names xs → PostsInput lost app moment name body told xs said told' ys → LiveSessionsFit app.names ys
input_fits lost app moment name body said told told' xs ys fit h = by (checks input_in (λ (i : Given). i.seq) (session_of name xs) body) h
  where
    ended : (seq : ℕ) (s : SessionState) (values : ℕ → Data) (v : Result Value Refusal) (seen : Option Tables) → EndsInput lost app moment name body seq s values v seen xs said told' ys → LiveSessionsFit app.names ys
    ended seq s values (Err r) seen k = same_fit app.names xs ys fit k.1
    ended seq s values (Ok g) seen k =
        effect_fits lost app moment (input_trigger app.names (with_input g s) values g.0) None name body said seq (with_input g s) seen told' xs ys fit k

    by : (r : Result Given (List ℕ)) → PostsInputChecked lost app moment name body r told xs said told' ys → LiveSessionsFit app.names ys
    by (Err words) k = same_fit app.names xs ys fit k.1
    by (Ok i) k = ended i.seq k.session k.values (input_target app.names k.session k.values i) k.seen k.ends

event_fits : (lost : Type 0) (app : App) (moment : ℕ) (name body said : List ℕ) (told told' : Option Tables) (xs ys : List (Named SessionState))
    → LiveSessionsFit app.names xs → PostsEvent lost app moment name body told xs said told' ys → LiveSessionsFit app.names ys
event_fits lost app moment name body said told told' xs ys fit h = by (checks event_in (λ (e : Sent). e.seq) (session_of name xs) body) h
  where
    ended : (seq : ℕ) (s : SessionState) (values : ℕ → Data) (v : Result Target Refusal) (seen : Option Tables) → EndsEvent lost app moment name body seq s values v seen xs said told' ys → LiveSessionsFit app.names ys
    ended seq s values (Err r) seen k = same_fit app.names xs ys fit k.1
    ended seq s values (Ok t) seen k =
        effect_fits lost app moment (OnSelect t.control) (item_seen app.names values t.item) name body said seq (with_target t s) seen told' xs ys fit k

    by : (r : Result Sent (List ℕ)) → PostsEventChecked lost app moment name body r told xs said told' ys → LiveSessionsFit app.names ys
    by (Err words) k = same_fit app.names xs ys fit k.1
    by (Ok e) k = ended e.seq k.session k.values k.verdict k.seen k.ends

-- an edit leaves all, or the sessions go over to the edited app
edit_fits : (name body said : List ℕ) (s new : OfficeState) → LiveSessionsFit s.app.names s.sessions → PostsEdit name body (office_parts s) said (office_parts new) → KeepsApp s.app new.app → LiveSessionsFit new.app.names new.sessions
edit_fits name body said s new fit h keeps = by (carries_sessions name body said (office_parts s) (office_parts new) h)
  where
    by : ((new.app ≡ s.app) × (new.sessions ≡ s.sessions)) ⊎ (new.sessions ≡ all_carried s.app.names new.app.names s.sessions) → LiveSessionsFit new.app.names new.sessions
    by (inl e) = subst (λ (a : App). LiveSessionsFit a.names new.sessions) (sym e.0) (subst (λ (l : List (Named SessionState)). LiveSessionsFit s.app.names l) (sym e.1) fit)
    by (inr e) =
        subst (λ (l : List (Named SessionState)). LiveSessionsFit new.app.names l) (sym e)
        (carried_fit s.app.names new.app.names s.sessions (alike s.app new.app keeps.frame) keeps.tables fit)

-- ---- the state

-- sessions can be opened of the app, which is an accepted one, and where it is kept the same beside its formulas, and the sessions fit it
record Goes (kept : Type 0) (s new : OfficeState) : Type 0 where
  accepted : IsSoundApp new.app
  opens : CanOpen new.app.names
  fit : LiveSessionsFit new.app.names new.sessions
  frame : kept → app_frame new.app ≡ app_frame s.app

-- the app is the same, and the sessions fit it
fits : {kept : Type 0} (s new : OfficeState) → IsSettledOffice s → new.app ≡ s.app → LiveSessionsFit s.app.names new.sessions → Goes kept s new
fits s new settled app fit = record {
  accepted = subst (λ (a : App). IsSoundApp a) (sym app) settled.app;
  opens = subst (λ (a : App). CanOpen a.names) (sym app) settled.opens;
  fit = subst (λ (a : App). LiveSessionsFit a.names new.sessions) (sym app) fit;
  frame = λ keep. ap app_frame app;
}

-- they are the same too
stays : {kept : Type 0} (s new : OfficeState) → IsSettledOffice s → new.app ≡ s.app → new.sessions ≡ s.sessions → Goes kept s new
stays s new settled app same = fits s new settled app (subst (λ (l : List (Named SessionState)). LiveSessionsFit s.app.names l) (sym same) settled.fit)

unchanged : {kept : Type 0} (s new : OfficeState) → IsSettledOffice s → new ≡ s → Goes kept s new
unchanged s new settled e = stays s new settled (ap (λ (x : OfficeState). x.app) e) (ap (λ (x : OfficeState). x.sessions) e)

-- the app is edited
edited : {kept : Type 0} (s new : OfficeState) → IsSettledOffice s → LiveSessionsFit new.app.names new.sessions → KeepsApp s.app new.app → Goes kept s new
edited s new settled fit keeps = record {
  accepted = keeps.sound;
  opens = can_open s.app new.app settled.opens keeps;
  fit = fit;
  frame = λ keep. keeps.frame;
}

-- a route doesn't replace the app: it is none of replacements, or is refused
abbrev KeepsFrame : Route → List ℕ → Type 0
KeepsFrame route said = (name : List ℕ) → route ≡ Replace name → IsRefused said

-- all is left, or an accepted app is served
replacement_goes : (lost : Type 0) (name body : List ℕ) (s new : OfficeState) (said : List ℕ) → IsSettledOffice s → PostsApp lost name body s said new → Goes (KeepsFrame (Replace name) said) s new
replacement_goes lost name body s new said settled h = by (outcome lost name body s said new h)
  where
    by : Outcome lost name body s said new → Goes (KeepsFrame (Replace name) said) s new
    by (inl left) = stays s new settled (ap (λ (x : OfficeState). x.app) left.others) (ap (λ (x : OfficeState). x.sessions) left.others)
    by (inr served) =
        let app : new.app ≡ served.app = ap (λ (x : OfficeState). x.app) served.is in
        let accepted = served.accepted in
        record {
          accepted = subst (λ (a : App). IsSoundApp a) (sym app) accepted.sound;
          opens = subst (λ (a : App). CanOpen a.names) (sym app) (record { screen = accepted.opens; tables = accepted.tables });
          fit = subst (λ (x : OfficeState). LiveSessionsFit x.app.names x.sessions) (sym served.is)
              (over_fit s.app.names served.app.names s.sessions accepted.opens accepted.tables settled.fit);
          frame = λ keep. absurd (keep name refl (compact_text (seq_data served.asked.seq)) served.said_is);
        }

does_goes : (lost : Type 0) (moment : ℕ) (route : Route) (body : List ℕ) (s new : OfficeState) (said : List ℕ) → IsSettledOffice s → RouteStep lost moment route body s said new → Goes (KeepsFrame route said) s new
unfolding RouteStep
does_goes lost moment (Begin n) body s new said settled does =
    fits s new settled (ap (λ (x : OfficeState). x.app) does.1)
    (begin_fits lost s.app moment n said s.tables new.tables s.sessions new.sessions settled.fit does.0)
does_goes lost moment (End n) body s new said settled does =
    fits s new settled (ap (λ (x : OfficeState). x.app) does.1)
    (subst (λ (l : List (Named SessionState)). LiveSessionsFit s.app.names l) (sym (ap (λ (x : OfficeState). x.sessions) does.1)) (end_fits s.app.names n s.sessions settled.fit))
does_goes lost moment (View n) body s new said settled does = stays s new settled (ap (λ (x : OfficeState). x.app) does.1) (ap (λ (x : OfficeState). x.sessions) does.1)
does_goes lost moment (Shown n) body s new said settled does = stays s new settled (ap (λ (x : OfficeState). x.app) does.1) (ap (λ (x : OfficeState). x.sessions) does.1)
does_goes lost moment (Items n gallery from) body s new said settled does = stays s new settled (ap (λ (x : OfficeState). x.app) does.1) (ap (λ (x : OfficeState). x.sessions) does.1)
does_goes lost moment (Event n) body s new said settled does =
    fits s new settled (ap (λ (x : OfficeState). x.app) does.1) (event_fits lost s.app moment n body said s.tables new.tables s.sessions new.sessions settled.fit does.0)
does_goes lost moment (Input n) body s new said settled does =
    fits s new settled (ap (λ (x : OfficeState). x.app) does.1) (input_fits lost s.app moment n body said s.tables new.tables s.sessions new.sessions settled.fit does.0)
does_goes lost moment (Rows n) body s new said settled does = stays s new settled (ap (λ (x : OfficeState). x.app) does.1) (ap (λ (x : OfficeState). x.sessions) does.1)
does_goes lost moment (Edit n) body s new said settled does = edited s new settled (edit_fits n body said s new settled.fit does.0 does.2) does.2
does_goes lost moment (Replace n) body s new said settled does = replacement_goes lost n body s new said settled does
does_goes lost moment (Page table after) body s new said settled does = stays s new settled (ap (λ (x : OfficeState). x.app) does.1) (ap (λ (x : OfficeState). x.sessions) does.1)
does_goes lost moment Plan body s new said settled does = unchanged s new settled does.1
does_goes lost moment Graph body s new said settled does = unchanged s new settled does.1

answered_goes : (s new : OfficeState) (before now : Marks) (moment : ℕ) (request : Asked) (said : List ℕ) → IsSettledOffice s → AnswersRequest s before moment request said now new → Goes (IsReplacement request → IsRefused said) s new
unfolding RoutedStep
answered_goes s new before now moment request said settled (inl step) = by step.route step.routed step.does
  where
    by : (r : Result Route RouteEnd) → Routing request.method request.path r → RoutedStep (SilenceCause before now) moment r request.body s said new → Goes (IsReplacement request → IsRefused said) s new
    by (Ok route) routed does =
        let goes = does_goes (SilenceCause before now) moment route request.body s new said settled does in
        record {
          accepted = goes.accepted;
          opens = goes.opens;
          fit = goes.fit;
          frame = λ keep. goes.frame (λ name e. keep (name, subst (λ (x : Route). Routing request.method request.path (Ok x)) e routed));
        }
    by (Err NoRoute) routed does = unchanged s new settled does.1
    by (Err WrongMethod) routed does = unchanged s new settled does.1
    by (Err Memory) routed does = absurd does
answered_goes s new before now moment request said settled (inr (inl h)) = stays s new settled (ap (λ (x : OfficeState). x.app) h.1.others) (ap (λ (x : OfficeState). x.sessions) h.1.others)
answered_goes s new before now moment request said settled (inr (inr h)) = stays s new settled (ap (λ (x : OfficeState). x.app) h.3.others) (ap (λ (x : OfficeState). x.sessions) h.3.others)

pub starts_settled : (app : App) (tables : Option Tables) → IsSoundApp app → CanOpen app.names → IsSettledOffice (started app tables)
starts_settled app tables sound opens = record { app = sound; opens = opens; fit = tt }

pub stays_settled : (old new : OfficeState) (before now : Marks) (xs : List Exchange) → IsSettledOffice old → Plays old before xs new now → IsSettledOffice new × (KeepApps xs → app_frame new.app ≡ app_frame old.app)
stays_settled old new before now [] settled plays =
    (subst (λ (x : OfficeState). IsSettledOffice x) (sym plays.0) settled, λ keep. ap (λ (x : OfficeState). app_frame x.app) plays.0)
stays_settled old new before now (x ∷ xs) settled plays =
    let one = answered_goes old x.state before x.marks x.moment x.asked x.said settled plays.1 in
    let rest = stays_settled x.state new x.marks now xs (record { app = one.accepted; opens = one.opens; fit = one.fit }) plays.2 in
    (rest.0, λ keep. rest.1 keep.1 ∙ one.frame keep.0)
