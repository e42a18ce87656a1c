-- Posted requests that come again.
use Rattle.serde_json.specs.Data as json
use Rattle.std.proofs.Common.{◌≡◌, ◌≢◌, ◌⊎◌, inl, inr, ℕ, List, Option, None, Some, Result, Ok, Err, refl, ap, sym, ◌∙◌, subst}
use Rattle.fx_base.specs.Silence.{SilenceCause, Marks}
use Rattle.fx_core.specs.declared.schema.TableShape.{TableShape}
use Rattle.row_keeper.specs.Tables.{Tables}
use Rattle.app_wire.specs.Framing.{Asked}
use Rattle.app_wire.specs.ReplyBytes.{refusal}
use Rattle.app_wire.specs.Routing.{IsOneRoute, method_of}
use Rattle.app_wire.specs.declared.head.Method.TheVariants.{Post}
use Rattle.app_cells.specs.declared.app.App.{App}
use Rattle.fx_types.specs.Values.{Data}
use Rattle.session_requests.specs.declared.trigger.Trigger.{Trigger}
use Rattle.session_requests.specs.declared.trigger.Trigger.TheVariants.{OnSelect}
use Rattle.app_wire.specs.declared.route.Route.{Route}
use Rattle.app_wire.specs.declared.route.Route.TheVariants.{Begin, End, View, Named as Shown, Items, Event, Input, Rows, Edit, Replace, Page, Plan, Graph}
use Rattle.session_state.specs.Once.{LastRequest}
use Rattle.row_requests.specs.Bodies.{posted_in}
use Rattle.numbered_requests.specs.Checks.{IsLastAsked, checks, desk_of, if_live, session_of}
use Rattle.session_state.specs.Sessions.{SessionState}
use Rattle.session_requests.specs.Acting.{EndsEvent, EndsInput, TakesEffect, session_answered, input_trigger, item_seen, with_input, with_target}
use Rattle.session_requests.specs.Bodies.{event_in, input_in}
use Rattle.session_requests.specs.Laws as laws
use Rattle.session_requests.specs.Posting.{PostsEvent, PostsEventChecked, PostsInput, PostsInputChecked}
use Rattle.session_requests.specs.Targets.{InputValue as Value, input_target}
use Rattle.session_requests.specs.declared.target.Target.{Target}
use Rattle.session_requests.specs.declared.event.Event.{Event as Sent}
use Rattle.session_requests.specs.declared.input.Input.{Input as Given}
use Rattle.office.specs.DeskEdits.{EditEnds as Edited, Parts, EditsChecked as EditChecked, PostsEdit, accepted_edit_reply as edit_reply, edit_checks}
use Rattle.fx_core.specs.declared.broken.Broken.{Broken}
use Rattle.numbered_requests.specs.Bodies.{edit_in}
use Rattle.numbered_requests.specs.declared.edit.Edit.{Edit as Change}
use Rattle.view_text.specs.declared.refused.Refusal.{Refusal}
use Rattle.row_requests.specs.DeskRows.{ChangesOutcome, PostsChecked, PostsRows, accepted_rows_reply, desk_checks, desks_after, outcome_reply}
use Rattle.numbered_requests.specs.Directory.{find}
use Rattle.row_requests.specs.Laws.{IsLastPost}
use Rattle.row_requests.specs.declared.bodies.Posted.{Posted}
use Rattle.numbered_requests.specs.declared.directory.Named.{Named}
use Rattle.office.specs.Answers.{Exchange, Plays}
use Rattle.office.specs.Isolation.{AreOfOthers, Caller, IsOf, caller_of, desk, last_request_of, kept_of_session, session}
use Rattle.office.specs.State.{OfficeState, schema_of}
use Rattle.office.specs.Step.{AnswersRequest, RouteStep, Left, PassesChecks, office_parts}
use Rattle.app_replacements.specs.Bodies.{replaced_in}
use Rattle.app_replacements.specs.declared.body.Replacement.{Replacement}
use Rattle.office.specs.Replacing.{PostsApp, ReachesApp, ReachesChecked, ReplacesChecked}
use Rattle.office.proofs.Repeats.{acts_once as edits_again, desk_again}
use Rattle.office.proofs.Replacements.{Outcome, outcome}
use Rattle.row_requests.proofs.Again.{checks_again}
use Rattle.numbered_requests.proofs.Again.{Asks, comes_again, passed}
use Rattle.numbered_requests.proofs.Directories.{find_put}
use Rattle.office.proofs.Isolation.{does_of, plays_keep_session, plays_leave_desk, route_is}
use Rattle.office.proofs.StepLemmas.{left_all}

-- it is the last of its desk, and what was said is kept
pub record IsKept (desks : List (Named LastRequest)) (name body said : List ℕ) : Type 0 where
  pub kept : LastRequest
  pub last : IsLastPost desks name kept
  pub body_is : kept.body ≡ body
  pub reply_is : kept.reply ≡ said

pub accepted : (lost : Type 0) (shapes : List TableShape) (name body : List ℕ) (tables tables' : Option Tables) (desks desks' : List (Named LastRequest)) (said : List ℕ)
    → PostsRows lost shapes name body tables desks said tables' desks' → find name desks' ≢ find name desks → IsKept desks' name body said
accepted lost shapes name body tables tables' desks desks' said h differ = by (desk_checks desks name body) refl h
  where
    kept : (p : Posted) → desk_checks desks name body ≡ Ok p → (o : ChangesOutcome) → desks' ≡ desks_after name body p.seq o desks → said ≡ outcome_reply p.seq o → IsKept desks' name body said
    kept p e (Err r) are replied = absurd (differ (ap (find name) are))
    kept p e (Ok ids) are replied =
        let k : LastRequest = record { last = p.seq; body = body; reply = accepted_rows_reply p.seq ids } in
        let d = passed Posted posted_in (λ (q : Posted). q.seq) (desk_of name desks) body p e in
        record {
          kept = k;
          last = record { found = ap (find name) are ∙ find_put LastRequest name k desks; value = d.value; is_json = d.is_json; posted = p; shape = d.shape; number = refl };
          body_is = refl;
          reply_is = sym replied;
        }

    by : (r : Result Posted (List ℕ)) → desk_checks desks name body ≡ r → PostsChecked lost shapes name body r tables desks said tables' desks' → IsKept desks' name body said
    by (Err words) e k = absurd (differ (ap (find name) k.2))
    by (Ok p) e k = kept p e k.outcome k.keeps k.replied

-- ---- sessions

abbrev event_number : Sent → ℕ
event_number e = e.seq

abbrev input_number : Given → ℕ
input_number i = i.seq

-- the last request that was accepted of a session is one of these, and what was said is kept
pub record IsKeptOf (T : Type 0) (asked : json.Data → Option T) (number : T → ℕ) (sessions : List (Named SessionState)) (name body said : List ℕ) : Type 0 where
  pub state : SessionState
  pub found : find name sessions ≡ Some state
  pub last : IsLastAsked T asked number state.kept
  pub body_is : state.kept.body ≡ body
  pub reply_is : state.kept.reply ≡ said

-- what is kept is the same where the session is
same_kept : (name : List ℕ) (xs ys : List (Named SessionState)) → xs ≡ ys → kept_of_session (find name xs) ≡ kept_of_session (find name ys)
same_kept name xs ys e = ap (λ (l : List (Named SessionState)). kept_of_session (find name l)) e

-- an accepted request is kept
effect_kept : (lost : Type 0) (T : Type 0) (asked : json.Data → Option T) (number : T → ℕ) (app : App) (moment : ℕ) (trigger : Trigger) (item : Option Data) (name body said : List ℕ) (it : T) (s : SessionState)
    (told told' : Option Tables) (xs ys : List (Named SessionState)) → Asks T asked body it → TakesEffect lost app moment trigger item name body (number it) s told xs said told' ys → IsKeptOf T asked number ys name body said
effect_kept lost T asked number app moment trigger item name body said it s told told' xs ys asks h = record {
  state = session_answered (number it) body said h.end;
  found = ap (find name) h.kept ∙ find_put SessionState name (session_answered (number it) body said h.end) xs;
  last = record { value = asks.value; is_json = asks.is_json; it = it; shape = asks.shape; last = refl };
  body_is = refl;
  reply_is = refl;
}

event_kept : (lost : Type 0) (app : App) (moment : ℕ) (name body said : List ℕ) (told told' : Option Tables) (xs ys : List (Named SessionState)) → PostsEvent lost app moment name body told xs said told' ys
    → kept_of_session (find name ys) ≢ kept_of_session (find name xs) → IsKeptOf Sent event_in event_number ys name body said
event_kept lost app moment name body said told told' xs ys h differ = by (checks event_in event_number (session_of name xs) body) refl h
  where
    ended : (it : Sent) → Asks Sent event_in body it → (s : SessionState) (values : ℕ → Data) (v : Result Target Refusal) (seen : Option Tables) → EndsEvent lost app moment name body it.seq s values v seen xs said told' ys
        → IsKeptOf Sent event_in event_number ys name body said
    ended it asks s values (Err r) seen k = absurd (differ (same_kept name ys xs k.1))
    ended it asks s values (Ok t) seen k =
        effect_kept lost Sent event_in event_number app moment (OnSelect t.control) (item_seen app.names values t.item) name body said it (with_target t s) seen told' xs ys asks k

    by : (r : Result Sent (List ℕ)) → checks event_in event_number (session_of name xs) body ≡ r → PostsEventChecked lost app moment name body r told xs said told' ys → IsKeptOf Sent event_in event_number ys name body said
    by (Err words) e k = absurd (differ (same_kept name ys xs k.1))
    by (Ok it) e k = ended it (passed Sent event_in event_number (session_of name xs) body it e) k.session k.values k.verdict k.seen k.ends

input_kept : (lost : Type 0) (app : App) (moment : ℕ) (name body said : List ℕ) (told told' : Option Tables) (xs ys : List (Named SessionState)) → PostsInput lost app moment name body told xs said told' ys
    → kept_of_session (find name ys) ≢ kept_of_session (find name xs) → IsKeptOf Given input_in input_number ys name body said
input_kept lost app moment name body said told told' xs ys h differ = by (checks input_in input_number (session_of name xs) body) refl h
  where
    ended : (it : Given) → Asks Given input_in body it → (s : SessionState) (values : ℕ → Data) (v : Result Value Refusal) (seen : Option Tables) → EndsInput lost app moment name body it.seq s values v seen xs said told' ys
        → IsKeptOf Given input_in input_number ys name body said
    ended it asks s values (Err r) seen k = absurd (differ (same_kept name ys xs k.1))
    ended it asks s values (Ok g) seen k =
        effect_kept lost Given input_in input_number app moment (input_trigger app.names (with_input g s) values g.0) None name body said it (with_input g s) seen told' xs ys asks k

    by : (r : Result Given (List ℕ)) → checks input_in input_number (session_of name xs) body ≡ r → PostsInputChecked lost app moment name body r told xs said told' ys → IsKeptOf Given input_in input_number ys name body said
    by (Err words) e k = absurd (differ (same_kept name ys xs k.1))
    by (Ok it) e k = ended it (passed Given input_in input_number (session_of name xs) body it e) k.session k.values (input_target app.names k.session k.values it) k.seen k.ends

-- ---- edits

abbrev edit_number : Change → ℕ
edit_number e = e.seq

-- the last request that was accepted of a desk is one of these, and what was said is kept
pub record IsKeptOfDesk (T : Type 0) (asked : json.Data → Option T) (number : T → ℕ) (desks : List (Named LastRequest)) (name body said : List ℕ) : Type 0 where
  pub kept : LastRequest
  pub found : find name desks ≡ Some kept
  pub last : IsLastAsked T asked number kept
  pub body_is : kept.body ≡ body
  pub reply_is : kept.reply ≡ said

-- an edit
abbrev pub IsKeptEdit : List (Named LastRequest) → List ℕ → List ℕ → List ℕ → Type 0
IsKeptEdit desks name body said = IsKeptOfDesk Change edit_in edit_number desks name body said

-- an accepted edit is kept
edit_kept : (name body said : List ℕ) (p p' : Parts) → PostsEdit name body p said p' → find name p'.desks ≢ find name p.desks → IsKeptEdit p'.desks name body said
edit_kept name body said p p' h differ = by (edit_checks p.desks name body) refl h
  where
    ended : (it : Change) → edit_checks p.desks name body ≡ Ok it → (v : Result App (List Broken)) → Edited name body it.seq v p said p' → IsKeptEdit p'.desks name body said
    ended it e (Err bs) k = absurd (differ (ap (λ (x : Parts). find name x.desks) k.1))
    ended it e (Ok b) k =
        let kept : LastRequest = record { last = it.seq; body = body; reply = edit_reply it.seq } in
        let asks = passed Change edit_in edit_number (desk_of name p.desks) body it e in
        record {
          kept = kept;
          found = ap (λ (x : Parts). find name x.desks) k.1 ∙ find_put LastRequest name kept p.desks;
          last = record { value = asks.value; is_json = asks.is_json; it = it; shape = asks.shape; last = refl };
          body_is = refl;
          reply_is = sym k.0;
        }

    by : (r : Result Change (List ℕ)) → edit_checks p.desks name body ≡ r → EditChecked name body r p said p' → IsKeptEdit p'.desks name body said
    by (Err words) e k = absurd (differ (ap (λ (x : Parts). find name x.desks) k.1))
    by (Ok it) e k = ended it e k.verdict k.ends

-- ---- replacements

abbrev replacement_number : Replacement → ℕ
replacement_number r = r.seq

abbrev pub IsKeptReplacement : List (Named LastRequest) → List ℕ → List ℕ → List ℕ → Type 0
IsKeptReplacement desks name body said = IsKeptOfDesk Replacement replaced_in replacement_number desks name body said

-- an accepted one is kept
replacement_kept : (lost : Type 0) (name body said : List ℕ) (s new : OfficeState) → PostsApp lost name body s said new → find name new.desks ≢ find name s.desks → IsKeptReplacement new.desks name body said
replacement_kept lost name body said s new h differ = by (outcome lost name body s said new h)
  where
    by : Outcome lost name body s said new → IsKeptReplacement new.desks name body said
    by (inl left) = absurd (differ (ap (λ (x : OfficeState). find name x.desks) left.others))
    by (inr served) =
        let kept : LastRequest = record { last = served.asked.seq; body = body; reply = edit_reply served.asked.seq } in
        let asks = passed Replacement replaced_in replacement_number (desk_of name s.desks) body served.asked served.checked in
        record {
          kept = kept;
          found = ap (λ (x : OfficeState). find name x.desks) served.is ∙ find_put LastRequest name kept s.desks;
          last = record { value = asks.value; is_json = asks.is_json; it = served.asked; shape = asks.shape; last = refl };
          body_is = refl;
          reply_is = sym served.said_is;
        }

-- ---- the last request of a caller

-- it came by this route, with this body, and this was said
data IsLastOf : Caller → Route → OfficeState → List ℕ → List ℕ → Type 0 where
  rows : (name body said : List ℕ) (s : OfficeState) → IsKept s.desks name body said → IsLastOf (desk name) (Rows name) s body said
  event : (name body said : List ℕ) (s : OfficeState) → IsKeptOf Sent event_in event_number s.sessions name body said → IsLastOf (session name) (Event name) s body said
  edit : (name body said : List ℕ) (s : OfficeState) → IsKeptEdit s.desks name body said → IsLastOf (desk name) (Edit name) s body said
  replacement : (name body said : List ℕ) (s : OfficeState) → IsKeptReplacement s.desks name body said → IsLastOf (desk name) (Replace name) s body said
  input : (name body said : List ℕ) (s : OfficeState) → IsKeptOf Given input_in input_number s.sessions name body said → IsLastOf (session name) (Input name) s body said

-- after a posted request that changed what is kept of its caller
does_keep : (lost : Type 0) (moment : ℕ) (route : Route) (body : List ℕ) (s new : OfficeState) (said : List ℕ) (caller : Caller)
    → caller_of route ≡ Some caller → method_of route ≡ Post → RouteStep lost moment route body s said new → last_request_of caller new ≢ last_request_of caller s
    → IsLastOf caller route new body said
unfolding RouteStep
does_keep lost moment (Rows n) body s new said caller is posted does differ =
    let named : desk n ≡ caller = cc in
    subst (λ c. IsLastOf c (Rows n) new body said) named
    (rows n body said new (accepted lost (schema_of s.app).tables n body s.tables new.tables s.desks new.desks said does.0
    (subst (λ c. last_request_of c new ≢ last_request_of c s) (sym named) differ)))
does_keep lost moment (Event n) body s new said caller is posted does differ =
    let named : session n ≡ caller = cc in
    subst (λ c. IsLastOf c (Event n) new body said) named
    (event n body said new (event_kept lost s.app moment n body said s.tables new.tables s.sessions new.sessions does.0 (subst (λ c. last_request_of c new ≢ last_request_of c s) (sym named) differ)))
does_keep lost moment (Input n) body s new said caller is posted does differ =
    let named : session n ≡ caller = cc in
    subst (λ c. IsLastOf c (Input n) new body said) named
    (input n body said new (input_kept lost s.app moment n body said s.tables new.tables s.sessions new.sessions does.0 (subst (λ c. last_request_of c new ≢ last_request_of c s) (sym named) differ)))
does_keep lost moment (Edit n) body s new said caller is posted does differ =
    let named : desk n ≡ caller = cc in
    subst (λ c. IsLastOf c (Edit n) new body said) named
    (edit n body said new (edit_kept n body said (office_parts s) (office_parts new) does.0 (subst (λ c. last_request_of c new ≢ last_request_of c s) (sym named) differ)))
does_keep lost moment (Replace n) body s new said caller is posted does differ =
    let named : desk n ≡ caller = cc in
    subst (λ c. IsLastOf c (Replace n) new body said) named
    (replacement n body said new (replacement_kept lost n body said s new does (subst (λ c. last_request_of c new ≢ last_request_of c s) (sym named) differ)))
does_keep lost moment (Begin n) body s new said caller is posted does differ = absurd (cc)
does_keep lost moment (End n) body s new said caller is posted does differ = absurd (cc)
does_keep lost moment (View n) body s new said caller is posted does differ = absurd (cc)
does_keep lost moment (Shown n) body s new said caller is posted does differ = absurd (cc)
does_keep lost moment (Items n gallery from) body s new said caller is posted does differ = absurd (cc)
does_keep lost moment (Page table after) body s new said caller is posted does differ = absurd (cc)
does_keep lost moment Plan body s new said caller is posted does differ = absurd (cc)
does_keep lost moment Graph body s new said caller is posted does differ = absurd (cc)

kept_left : (lost : Type 0) (caller : Caller) (s new : OfficeState) → Left lost s new → last_request_of caller new ≡ last_request_of caller s
kept_left lost (desk name) s new h = ap (λ (x : OfficeState). find name x.desks) h.others
kept_left lost (session name) s new h = ap (λ (x : OfficeState). kept_of_session (find name x.sessions)) h.others

answered_keeps : IsOneRoute → (s t : OfficeState) (k l : Marks) (moment : ℕ) (request : Asked) (said : List ℕ) (caller : Caller) (of : IsOf caller request)
    → request.method ≡ Post → AnswersRequest s k moment request said l t → last_request_of caller t ≢ last_request_of caller s → IsLastOf caller of.route t request.body said
answered_keeps one s t k l moment request said caller of posted (inl step) differ =
    does_keep (SilenceCause k l) moment of.route request.body s t said caller of.caller_is (of.routed.1 ∙ posted) (does_of one (SilenceCause k l) caller s t moment request said of step) differ
answered_keeps one s t k l moment request said caller of posted (inr (inl h)) differ = absurd (differ (kept_left (SilenceCause k l) caller s t h.1))
answered_keeps one s t k l moment request said caller of posted (inr (inr h)) differ = absurd (differ (kept_left (SilenceCause k l) caller s t h.3))

-- ---- that comes again

says_again : laws.RequestActsOnce → (before now : Marks) (moment : ℕ) (route : Route) (caller : Caller) (s new : OfficeState) (body said reply : List ℕ) → IsLastOf caller route s body reply
    → RouteStep (SilenceCause before now) moment route body s said new → (said ≡ reply) × (new ≡ s)
unfolding RouteStep
says_again once before now moment _ _ s new body said reply (rows name _ _ _ is) does =
    let h = subst (λ r. PostsChecked (SilenceCause before now) (schema_of s.app).tables name is.kept.body r s.tables s.desks said new.tables new.desks) (checks_again s.desks name is.kept is.last)
    (subst (λ b. PostsRows (SilenceCause before now) (schema_of s.app).tables name b s.tables s.desks said new.tables new.desks) (sym is.body_is) does.0) in
    (h.0 ∙ is.reply_is, does.1 ∙ ap (λ (t : Option Tables). record s { tables = t; desks = new.desks }) h.1 ∙ ap (λ (d : List (Named LastRequest)). record s { desks = d }) h.2)
says_again once before now moment _ _ s new body said reply (edit name _ _ _ is) does =
    let h = edits_again name said is.kept (office_parts s) (office_parts new) is.found is.last
    (subst (λ b. PostsEdit name b (office_parts s) said (office_parts new)) (sym is.body_is) does.0) in
    (h.0 ∙ is.reply_is, does.1 ∙ ap (λ (p : Parts). record s { app = p.app; sessions = p.sessions; desks = p.desks }) h.1)
says_again once before now moment _ _ s new body said reply (replacement name _ _ _ is) does =
    let h = subst (λ (r : Result Replacement (List ℕ)). ReplacesChecked (SilenceCause before now) name is.kept.body r s said new) (desk_again Replacement replaced_in replacement_number s.desks name is.kept is.found is.last)
    (subst (λ (b : List ℕ). PostsApp (SilenceCause before now) name b s said new) (sym is.body_is) does) in
    (h.0 ∙ is.reply_is, h.1)
says_again once before now moment _ _ s new body said reply (event name _ _ _ is) does =
    let h = (once before now s.app moment name said is.state s.tables new.tables s.sessions new.sessions is.found).1 is.last
    (subst (λ b. PostsEvent (SilenceCause before now) s.app moment name b s.tables s.sessions said new.tables new.sessions) (sym is.body_is) does.0) in
    (h.0 ∙ is.reply_is, does.1 ∙ ap (λ (t : Option Tables). record s { tables = t; sessions = new.sessions }) h.2 ∙ ap (λ (x : List (Named SessionState)). record s { sessions = x }) h.1)
says_again once before now moment _ _ s new body said reply (input name _ _ _ is) does =
    let h = (once before now s.app moment name said is.state s.tables new.tables s.sessions new.sessions is.found).0 is.last
    (subst (λ b. PostsInput (SilenceCause before now) s.app moment name b s.tables s.sessions said new.tables new.sessions) (sym is.body_is) does.0) in
    (h.0 ∙ is.reply_is, does.1 ∙ ap (λ (t : Option Tables). record s { tables = t; sessions = new.sessions }) h.2 ∙ ap (λ (x : List (Named SessionState)). record s { sessions = x }) h.1)

-- the last request of a session doesn't pass the checks again
not_asked : (T : Type 0) (asked : json.Data → Option T) (number : T → ℕ) (sessions : List (Named SessionState)) (name body reply : List ℕ) → IsKeptOf T asked number sessions name body reply
    → (it : T) → checks asked number (session_of name sessions) body ≡ Ok it → ⊥
not_asked T asked number sessions name body reply is it passes =
    let live : session_of name sessions ≡ Ok is.state.kept = ap if_live is.found in
    let again : checks asked number (session_of name sessions) is.state.kept.body ≡ Err is.state.kept.reply =
    ap (λ c. checks asked number c is.state.kept.body) live ∙ comes_again T asked number is.state.kept is.last in
    let e : Err is.state.kept.reply ≡ Ok it = sym again ∙ (ap (λ b. checks asked number (session_of name sessions) b) is.body_is ∙ passes) in
    absurd (cc)

never_reached : (route : Route) (caller : Caller) (s : OfficeState) (body reply : List ℕ) → IsLastOf caller route s body reply → PassesChecks route body s → ⊥
unfolding PassesChecks
never_reached _ _ s body reply (rows name _ _ _ is) reaches =
    let passes = subst (λ b. desk_checks s.desks name b ≡ Ok reaches.0) (sym is.body_is) reaches.1 in
    let e : Err is.kept.reply ≡ Ok reaches.0 = sym (checks_again s.desks name is.kept is.last) ∙ passes in absurd (cc)
never_reached _ _ s body reply (edit name _ _ _ is) reaches = reaches
never_reached _ _ s body reply (replacement name _ _ _ is) reaches =
    subst (λ (r : Result Replacement (List ℕ)). ReachesChecked name is.kept.body r s) (desk_again Replacement replaced_in replacement_number s.desks name is.kept is.found is.last)
    (subst (λ b. ReachesApp name b s) (sym is.body_is) reaches)
never_reached _ _ s body reply (event name _ _ _ is) reaches = not_asked Sent event_in event_number s.sessions name body reply is reaches.0 reaches.1
never_reached _ _ s body reply (input name _ _ _ is) reaches = not_asked Given input_in input_number s.sessions name body reply is reaches.0 reaches.1

answered_again : laws.RequestActsOnce → IsOneRoute → (u v : OfficeState) (m n : Marks) (moment : ℕ) (request : Asked) (said reply : List ℕ) (caller : Caller) (of : IsOf caller request)
    → IsLastOf caller of.route u request.body reply → AnswersRequest u m moment request said n v
    → ((said ≡ reply) ⊎ (said ≡ refusal 26)) × Left (SilenceCause m n) u v
answered_again once one u v m n moment request said reply caller of is (inl step) =
    let h = says_again once m n moment of.route caller u v request.body said reply is (does_of one (SilenceCause m n) caller u v moment request said of step) in
    (inl h.0, left_all (SilenceCause m n) u v h.1)
answered_again once one u v m n moment request said reply caller of is (inr (inl h)) = (inr h.0, h.1)
answered_again once one u v m n moment request said reply caller of is (inr (inr h)) =
    let routed = route_is one caller request of (Ok h.2.route) (λ e. cc) h.2.routed in
    let same : h.2.route ≡ of.route = cc in
    absurd (never_reached of.route caller u request.body reply is (subst (λ r. PassesChecks r request.body u) same h.2.reaches))

desk_still : (t u : OfficeState) (name body said : List ℕ) → find name u.desks ≡ find name t.desks → IsKept t.desks name body said → IsKept u.desks name body said
desk_still t u name body said same is = record {
  kept = is.kept;
  last = record { found = same ∙ is.last.found; value = is.last.value; is_json = is.last.is_json; posted = is.last.posted; shape = is.last.shape; number = is.last.number };
  body_is = is.body_is;
  reply_is = is.reply_is;
}

kept_still : (T : Type 0) (asked : json.Data → Option T) (number : T → ℕ) (t u : OfficeState) (name body said : List ℕ) → find name u.desks ≡ find name t.desks → IsKeptOfDesk T asked number t.desks name body said
    → IsKeptOfDesk T asked number u.desks name body said
kept_still T asked number t u name body said same is = record { kept = is.kept; found = same ∙ is.found; last = is.last; body_is = is.body_is; reply_is = is.reply_is }

-- a session of which the same is kept was asked the same last
session_still : (T : Type 0) (asked : json.Data → Option T) (number : T → ℕ) (t u : OfficeState) (name body said : List ℕ) → kept_of_session (find name u.sessions) ≡ kept_of_session (find name t.sessions)
    → IsKeptOf T asked number t.sessions name body said → IsKeptOf T asked number u.sessions name body said
session_still T asked number t u name body said same is = by (find name u.sessions) refl (same ∙ ap kept_of_session is.found)
  where
    by : (o : Option SessionState) → find name u.sessions ≡ o → kept_of_session o ≡ Some is.state.kept → IsKeptOf T asked number u.sessions name body said
    by None found e = absurd cc
    by (Some s) found e =
        let kept : s.kept ≡ is.state.kept = cc in
        record {
          state = s;
          found = found;
          last = subst (IsLastAsked T asked number) (sym kept) is.last;
          body_is = ap (λ (k : LastRequest). k.body) kept ∙ is.body_is;
          reply_is = ap (λ (k : LastRequest). k.reply) kept ∙ is.reply_is;
        }

-- while the same is kept of the caller it is the last
still_last : (caller : Caller) (route : Route) (t u : OfficeState) (body said : List ℕ) → last_request_of caller u ≡ last_request_of caller t → IsLastOf caller route t body said → IsLastOf caller route u body said
still_last _ _ t u body said same (rows name _ _ _ is) = rows name body said u (desk_still t u name body said same is)
still_last _ _ t u body said same (edit name _ _ _ is) = edit name body said u (kept_still Change edit_in edit_number t u name body said same is)
still_last _ _ t u body said same (replacement name _ _ _ is) = replacement name body said u (kept_still Replacement replaced_in replacement_number t u name body said same is)
still_last _ _ t u body said same (event name _ _ _ is) = event name body said u (session_still Sent event_in event_number t u name body said same is)
still_last _ _ t u body said same (input name _ _ _ is) = input name body said u (session_still Given input_in input_number t u name body said same is)

pub acts_once_kept : laws.RequestActsOnce → IsOneRoute → (s t u v : OfficeState) (k l m n : Marks) (moment moment' : ℕ) (request : Asked) (said said' : List ℕ) (caller : Caller)
    → IsOf caller request → request.method ≡ Post → AnswersRequest s k moment request said l t → last_request_of caller t ≢ last_request_of caller s
    → last_request_of caller u ≡ last_request_of caller t → AnswersRequest u m moment' request said' n v
    → ((said' ≡ said) ⊎ (said' ≡ refusal 26)) × Left (SilenceCause m n) u v
acts_once_kept once one s t u v k l m n moment moment' request said said' caller of posted first differ same second =
    answered_again once one u v m n moment' request said' said caller of
    (still_last caller of.route t u request.body said same (answered_keeps one s t k l moment request said caller of posted first differ)) second

-- requests of others leave what is kept of a caller
others_keep : laws.LeavesOthers → (caller : Caller) (t u : OfficeState) (l m : Marks) (between : List Exchange) → Plays t l between u m → AreOfOthers caller between → last_request_of caller u ≡ last_request_of caller t
others_keep leaves (desk name) t u l m between plays others = plays_leave_desk t l between u m name plays others
others_keep leaves (session name) t u l m between plays others = plays_keep_session leaves t l between u m name plays others

pub acts_once : laws.LeavesOthers → laws.RequestActsOnce → IsOneRoute → (s t u v : OfficeState) (k l m n : Marks) (moment moment' : ℕ) (request : Asked) (said said' : List ℕ) (caller : Caller) (between : List Exchange)
    → IsOf caller request → request.method ≡ Post → AnswersRequest s k moment request said l t → last_request_of caller t ≢ last_request_of caller s
    → Plays t l between u m → AreOfOthers caller between → AnswersRequest u m moment' request said' n v
    → ((said' ≡ said) ⊎ (said' ≡ refusal 26)) × Left (SilenceCause m n) u v
acts_once leaves once one s t u v k l m n moment moment' request said said' caller between of posted first differ plays others second =
    acts_once_kept once one s t u v k l m n moment moment' request said said' caller of posted first differ (others_keep leaves caller t u l m between plays others) second
