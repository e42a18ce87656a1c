-- What a session sends has one outcome.
use Rattle.std.proofs.Common.{◌≡◌, ℕ, Bool, true, false, List, Option, Some, None, Result, Ok, Err, refl, ap, sym, ◌∙◌, subst}
use Rattle.std.specs.Prelude.{codes}
use Rattle.std.specs.List.{All}
use Rattle.recalc.specs.app_cells.declared.app.App.{App}
use Rattle.recalc.specs.app_semantics.Fresh.{AreKnown}
use Rattle.recalc.specs.app_semantics.Holding.{FittingHolds, HoldRows, HoldsFitting}
use Rattle.recalc.specs.app_semantics.Laws.{OneFreshAt}
use Rattle.recalc.specs.app_semantics.Present.{Present, present}
use Rattle.recalc.specs.app_semantics.Properties.{IsPropertyForItem, is_true}
use Rattle.recalc.specs.app_semantics.Sound.{IsSoundApp}
use Rattle.fx_types.specs.Values.{Data, boolean}
use Rattle.recalc.specs.fx_semantics.Around.{record_of}
use Rattle.recalc.specs.fx_semantics.Unique.{OneValue}
use Rattle.fx_value.specs.Columns.{Row}
use Rattle.fx_base.specs.Silence.{MayFallSilent, SilenceCause}
use Rattle.fx_base.specs.Telling.{Stays}
use Rattle.fx_core.specs.declared.schema.Schema.{Schema}
use Rattle.row_keeper.specs.Tables.{AreStatesOf, Tables, rows_told}
use Rattle.row_queries.specs.TableRows.{IsRowOf}
use Rattle.row_queries.specs.declared.rows.Row.{Row as TableRow}
use Rattle.row_requests.specs.Sound.{AreSound}
use Rattle.row_requests.proofs.Soundness.{state_is}
use Rattle.session_state.specs.Changes.{FitsNames}
use Rattle.session_state.specs.Sessions.{SessionState}
use Rattle.view_text.specs.declared.refused.Refusal.{Refusal}
use Rattle.numbered_requests.specs.Checks.{checks, if_live, session_of}
use Rattle.numbered_requests.specs.Directory.{find, put_named}
use Rattle.numbered_requests.specs.declared.directory.Named.{Named}
use Rattle.recalc.specs.Values.{CellsFit}
use Rattle.fx_types.specs.ValueCode.{data_code}
use Rattle.std.proofs.Math.Bool.{Bool-set}
use Rattle.std.proofs.Math.Logic.{∥∥₁_elim}
use Rattle.std.proofs.Props.{props}
use Rattle.std.specs.Coded.{Coded-set}
use Rattle.row_keeper.proofs.NumberedRows.{rows_are}
use Rattle.session_requests.specs.Caching.{AreFreshAt}
use Rattle.session_requests.specs.EventLaws.{OneRunning}
use Rattle.session_requests.proofs.Items.{target_is}
use Rattle.session_requests.proofs.Looked.{agrees, event_number, event_same, input_same, seen_same, shown_over, trigger_same}
use Rattle.session_requests.specs.Requests.{accepted_reply}
use Rattle.session_requests.specs.Scenes.{TablesAndSession, begun, quiet, scene}
use Rattle.session_requests.specs.declared.trigger.Trigger.{Trigger}
use Rattle.session_requests.specs.declared.trigger.Trigger.TheVariants.{OnSelect}
use Rattle.session_requests.specs.Acting.{EndsEvent, EndsInput, TakesEffect, session_answered, input_trigger, item_seen, with_input, with_target}
use Rattle.session_requests.specs.Bodies.{event_in, input_in}
use Rattle.session_requests.specs.Laws.{IsOneOutcome}
use Rattle.recalc.proofs.ForItems.{Ground, property_one}
use Rattle.session_requests.specs.Posting.{EventLooksAt, InputLooksAt, IsShownToUser, IsVerdict, IsVisibleFor, PostsEventChecked, PostsInputChecked, SendsEvent, SendsInput, gallery_around}
use Rattle.session_requests.specs.Targets.{InputValue, event_target, input_target, or_refused}
use Rattle.session_requests.specs.declared.event.Event.{Event}
use Rattle.session_requests.specs.declared.input.Input.{Input}
use Rattle.session_requests.specs.declared.target.Item.{Item}
use Rattle.session_requests.specs.declared.target.Target.{Target}

-- what is said is the same, and the tables, and what becomes of the sessions where they were the same
abbrev Alike : List ℕ → List ℕ → Tables → Tables → (a a' b b' : List (Named SessionState)) → Type 0
Alike said said' u v a a' b b' = (said ≡ said') × (u ≡ v) × (a ≡ b → a' ≡ b')

-- an app and a session of it of which the laws hold
pub record IsGood (p : Present) : Type 0 where
  pub sound : IsSoundApp p.app
  pub holds : HoldsFitting p.app.names p.session
  pub known : AreKnown p.app p.tables

-- ---- a control is visible or not

one_visible : OneValue → (p : Present) (values : ℕ → Data) (k g at : ℕ) (b b' : Bool) → IsGood p → CellsFit p.app values
    → IsVisibleFor p values k g at b → IsVisibleFor p values k g at b' → b ≡ b'
one_visible one p values k g at b b' good fits x y =
    let both : Some x.row ≡ Some y.row = sym x.there ∙ y.there in
    let same : y.row ≡ x.row = cc in
    let ground : Ground p values = record { one = one; sound = good.sound; holds = good.holds; known = good.known; fits = fits } in
    let value = property_one p values (record_of x.row) k (codes "Visible") (boolean true) x.value y.value ground x.is_value
    (subst (λ (r : Row). IsPropertyForItem p values (record_of r) k (codes "Visible") (boolean true) y.value) same y.is_value) in
    x.is ∙ ap is_true value ∙ sym y.is

one_shown : OneValue → (p : Present) (values : ℕ → Data) (k : ℕ) (gallery : Option ℕ) (item : Option Item) (b b' : Bool) → IsGood p → CellsFit p.app values
    → IsShownToUser p values k gallery item b → IsShownToUser p values k gallery item b' → b ≡ b'
one_shown one p values k (Some g) (Some i) b b' good fits x y = one_visible one p values k g i.at b b' good fits x y
one_shown one p values k (Some g) None b b' good fits x y = x ∙ sym y
one_shown one p values k None item b b' good fits x y = x ∙ sym y

-- ---- one verdict

pub one_verdict : OneValue → (p : Present) (values : ℕ → Data) (r v w : Result Target Refusal) → IsGood p → CellsFit p.app values → IsVerdict p values r v → IsVerdict p values r w → v ≡ w
one_verdict one p values (Err r) v w good fits x y = x ∙ sym y
one_verdict one p values (Ok t) v w good fits x y =
    x.2 ∙ ap (λ (b : Bool). or_refused b 17 (Ok t)) (one_shown one p values t.control (gallery_around p.app t.control) t.item x.0 y.0 good fits x.1 y.1) ∙ sym y.2

-- what is let through at last was so before
abbrev let_in : Target → Result Target Refusal
let_in t = Ok t

pub verdict_ok : (p : Present) (values : ℕ → Data) (r : Result Target Refusal) (t : Target) → IsVerdict p values r (Ok t) → r ≡ Ok t
verdict_ok p values (Err f) t h = absurd cc
verdict_ok p values (Ok u) t h = by h.0 h.2
  where
    by : (b : Bool) → let_in t ≡ or_refused b 17 (let_in u) → let_in u ≡ let_in t
    by true e = sym e
    by false e = absurd cc

-- ---- what is looked at decides

module _ (p : Present) (values others : ℕ → Data) where
  pub verdict_over : (s : SessionState) (e : Event) (r v : Result Target Refusal) → event_target p.app.names s values e ≡ r → ((d : ℕ) → EventLooksAt p.app e d → others d ≡ values d) → IsVerdict p others r v → IsVerdict p values r v
  verdict_over s e (Err f) v is h x = x
  verdict_over s e (Ok t) v is h x = (x.0, shown_over p values others e t.control t.item x.0 (event_number p.app.names s values e t is) h x.1, x.2)

  inputs_over : (lost : Type 0) (moment : ℕ) (name body : List ℕ) (seq : ℕ) (s : SessionState) (i : Input) (r : Result InputValue Refusal) (told told' : Option Tables) (sessions sessions' : List (Named SessionState)) (said : List ℕ)
      → input_target p.app.names s values i ≡ r → ((d : ℕ) → InputLooksAt p.app i d → others d ≡ values d)
      → EndsInput lost p.app moment name body seq s others r told sessions said told' sessions' → EndsInput lost p.app moment name body seq s values r told sessions said told' sessions'
  inputs_over lost moment name body seq s i (Err f) told told' sessions sessions' said is h x = x
  inputs_over lost moment name body seq s i (Ok g) told told' sessions sessions' said is h x =
      subst (λ (t : Trigger). TakesEffect lost p.app moment t None name body seq (with_input g s) told sessions said told' sessions') (trigger_same p.app s (with_input g s) values others i g is h) x

  events_over : (lost : Type 0) (moment : ℕ) (name body : List ℕ) (seq : ℕ) (s : SessionState) (e : Event) (r : Result Target Refusal) (told told' : Option Tables) (sessions sessions' : List (Named SessionState)) (said : List ℕ)
      → IsVerdict p values (event_target p.app.names s values e) r → ((d : ℕ) → EventLooksAt p.app e d → others d ≡ values d)
      → EndsEvent lost p.app moment name body seq s others r told sessions said told' sessions' → EndsEvent lost p.app moment name body seq s values r told sessions said told' sessions'
  events_over lost moment name body seq s e (Err f) told told' sessions sessions' said is h x = x
  events_over lost moment name body seq s e (Ok t) told told' sessions sessions' said is h x =
      let through = verdict_ok p values (event_target p.app.names s values e) t is in
      subst (λ (o : Option Data). TakesEffect lost p.app moment (OnSelect t.control) o name body seq (with_target t s) told sessions said told' sessions')
      (seen_same p.app values others e t (target_is p.app.names s values e t through) (event_number p.app.names s values e t through) h) x

-- values that are fresh where they are looked at agree there
pub agreed : OneFreshAt → (p : Present) (looked : ℕ → Type 0) (values others : ℕ → Data) → IsGood p → ∥ AreFreshAt p looked values ∥₁ → ∥ AreFreshAt p looked others ∥₁ → (k : ℕ) → looked k → others k ≡ values k
agreed one p looked values others good x y k l =
    ∥∥₁_elim x (Coded-set data_code (others k) (values k)) (λ f. ∥∥₁_elim y (Coded-set data_code (others k) (values k)) (λ g. agrees one p looked values others good.sound good.holds good.known f g k l))

pub all_fit : (p : Present) (looked : ℕ → Type 0) (values : ℕ → Data) → ∥ AreFreshAt p looked values ∥₁ → CellsFit p.app values
all_fit p looked values x = ∥∥₁_elim x (hlevel (Bool-set, props)) (λ f. f.fits)

-- ---- tables that are told

hold : (schema : Schema) (t : Tables) → AreStatesOf schema.tables t.states → HoldRows schema (rows_told (Some t))
hold schema t are k shape e = subst (λ (rows : List TableRow). All (IsRowOf shape) rows) (sym (rows_are t.states k)) (state_is schema.tables t.states k shape are e).fit

pub known_of : (app : App) (t : Tables) → AreSound app.names.schema (Some t) → AreKnown app (rows_told (Some t))
known_of app t sound = record { told = λ k c f. refl; fit = hold app.names.schema t sound }

-- what is told at the end was told as the checks were made, and is what was told at first
seen_is : (lost : Type 0) (t u : Tables) (seen told' : Option Tables) → told' ≡ Some u → (seen ≡ None → told' ≡ None) → MayFallSilent lost Stays (Some t) seen → seen ≡ Some t
seen_is lost t u (Some x) told' is quiet h = ap (λ (y : Tables). Some y) h
seen_is lost t u None told' is quiet h = let none : Some u ≡ None = sym is ∙ quiet refl in absurd cc

-- ---- one effect

effect_quiet : (lost : Type 0) (app : App) (moment : ℕ) (trigger : Trigger) (item : Option Data) (name body : List ℕ) (seq : ℕ) (s : SessionState) (told told' : Option Tables) (sessions sessions' : List (Named SessionState)) (said : List ℕ)
    → told ≡ None → TakesEffect lost app moment trigger item name body seq s told sessions said told' sessions' → told' ≡ None
effect_quiet lost app moment trigger item name body seq s None told' sessions sessions' said e h = h.accepts.runs
effect_quiet lost app moment trigger item name body seq s (Some t) told' sessions sessions' said e h = absurd cc

effects_alike : OneRunning → (lost lost' : Type 0) (app : App) (moment : ℕ) (trigger : Trigger) (item : Option Data) (name body : List ℕ) (seq : ℕ) (s : SessionState) (t u v : Tables) (a a' b b' : List (Named SessionState)) (said said' : List ℕ)
    → TakesEffect lost app moment trigger item name body seq s (Some t) a said (Some u) a' → TakesEffect lost' app moment trigger item name body seq s (Some t) b said' (Some v) b' → Alike said said' u v a a' b b'
effects_alike one lost lost' app moment trigger item name body seq s t u v a a' b b' said said' x y =
    let w = one app moment trigger item (scene t (begun s)) (scene u x.accepts.end) (scene v y.accepts.end) x.accepts.value y.accepts.value x.accepts.runs y.accepts.runs in
    let ends : x.accepts.end ≡ y.accepts.end = ap (λ (e : TablesAndSession). e.session) w.1 in
    let words : said ≡ said' = x.accepts.said_is ∙ (λ i. accepted_reply seq (w.0 i) (ends i)) ∙ sym y.accepts.said_is in
    let left : x.end ≡ y.end = x.accepts.left ∙ ap quiet ends ∙ sym y.accepts.left in
    (words, ap (λ (e : TablesAndSession). e.tables) w.1, λ e. x.kept ∙ (λ i. put_named name (session_answered seq body (words i) (left i)) (e i)) ∙ sym y.kept)

-- ---- one outcome

pub one_session : (name : List ℕ) (a b : List (Named SessionState)) (s s' : SessionState) → find name a ≡ find name b → find name a ≡ Some s → find name b ≡ Some s' → s' ≡ s
one_session name a b s s' same e f = let both : Some s' ≡ Some s = sym f ∙ sym same ∙ e in cc

refused_alike : (t u v : Tables) (words words' said said' : List ℕ) (a a' b b' : List (Named SessionState)) → words ≡ words' → (said ≡ words) × (a' ≡ a) × (Some u ≡ Some t) → (said' ≡ words') × (b' ≡ b) × (Some v ≡ Some t) → Alike said said' u v a a' b b'
refused_alike t u v words words' said said' a a' b b' same x y =
    let both : Some u ≡ Some v = x.2 ∙ sym y.2 in
    let tables : u ≡ v = cc in
    (x.0 ∙ same ∙ sym y.0, tables, λ e. x.1 ∙ e ∙ sym y.1)

module _ (running : OneRunning) (lost lost' : Type 0) (app : App) (moment : ℕ) (name body : List ℕ) (seq : ℕ) (s : SessionState) (values : ℕ → Data) where
  input_quiet : (v : Result InputValue Refusal) (seen told' : Option Tables) (sessions sessions' : List (Named SessionState)) (said : List ℕ) → EndsInput lost app moment name body seq s values v seen sessions said told' sessions' → seen ≡ None → told' ≡ None
  input_quiet (Err r) seen told' sessions sessions' said h e = h.2 ∙ e
  input_quiet (Ok g) seen told' sessions sessions' said h e =
      effect_quiet lost app moment (input_trigger app.names (with_input g s) values g.0) None name body seq (with_input g s) seen told' sessions sessions' said e h

  event_quiet : (v : Result Target Refusal) (seen told' : Option Tables) (sessions sessions' : List (Named SessionState)) (said : List ℕ) → EndsEvent lost app moment name body seq s values v seen sessions said told' sessions' → seen ≡ None → told' ≡ None
  event_quiet (Err r) seen told' sessions sessions' said h e = h.2 ∙ e
  event_quiet (Ok t) seen told' sessions sessions' said h e =
      effect_quiet lost app moment (OnSelect t.control) (item_seen app.names values t.item) name body seq (with_target t s) seen told' sessions sessions' said e h

  input_ends : (r : Result InputValue Refusal) (t u v : Tables) (a a' b b' : List (Named SessionState)) (said said' : List ℕ)
      → EndsInput lost app moment name body seq s values r (Some t) a said (Some u) a' → EndsInput lost' app moment name body seq s values r (Some t) b said' (Some v) b' → Alike said said' u v a a' b b'
  input_ends (Err f) t u v a a' b b' said said' x y = refused_alike t u v _ _ said said' a a' b b' refl x y
  input_ends (Ok g) t u v a a' b b' said said' x y =
      effects_alike running lost lost' app moment (input_trigger app.names (with_input g s) values g.0) None name body seq (with_input g s) t u v a a' b b' said said' x y

  event_ends : (r : Result Target Refusal) (t u v : Tables) (a a' b b' : List (Named SessionState)) (said said' : List ℕ)
      → EndsEvent lost app moment name body seq s values r (Some t) a said (Some u) a' → EndsEvent lost' app moment name body seq s values r (Some t) b said' (Some v) b' → Alike said said' u v a a' b b'
  event_ends (Err f) t u v a a' b b' said said' x y = refused_alike t u v _ _ said said' a a' b b' refl x y
  event_ends (Ok o) t u v a a' b b' said said' x y =
      effects_alike running lost lost' app moment (OnSelect o.control) (item_seen app.names values o.item) name body seq (with_target o s) t u v a a' b b' said said' x y

-- the laws that are used
pub record Uses : Type 1 where
  pub value : OneValue
  pub fresh : OneFreshAt
  pub holds : FittingHolds
  pub running : OneRunning

module _ (laws : Uses) (lost lost' : Type 0) (app : App) (moment : ℕ) (name body : List ℕ) (t u v : Tables) (a a' b b' : List (Named SessionState)) (said said' : List ℕ)
    (sound : IsSoundApp app) (fits : (s : SessionState) → find name a ≡ Some s → FitsNames app.names s) (same : find name a ≡ find name b) (rows : AreSound app.names.schema (Some t)) where
  good : (s : SessionState) → find name a ≡ Some s → IsGood (present app s (rows_told (Some t)) moment)
  good s found = record { sound = sound; holds = laws.holds app.names s (fits s found); known = known_of app t rows }

  inputs_alike : (r : Result Input (List ℕ)) → PostsInputChecked lost app moment name body r (Some t) a said (Some u) a' → PostsInputChecked lost' app moment name body r (Some t) b said' (Some v) b' → Alike said said' u v a a' b b'
  inputs_alike (Err words) x y = refused_alike t u v words words said said' a a' b b' refl x y
  inputs_alike (Ok i) x y =
      let p : Present = present app x.session (rows_told (Some t)) moment in
      let first : x.seen ≡ Some t = seen_is lost t u x.seen (Some u) refl (input_quiet laws.running lost lost' app moment name body i.seq x.session x.values (input_target app.names x.session x.values i) x.seen (Some u) a a' said x.ends) x.stays in
      let second : y.seen ≡ Some t = seen_is lost' t v y.seen (Some v) refl (input_quiet laws.running lost' lost app moment name body i.seq y.session y.values (input_target app.names y.session y.values i) y.seen (Some v) b b' said' y.ends) y.stays in
      let one : y.session ≡ x.session = one_session name a b x.session y.session same x.found y.found in
      let looked : ℕ → Type 0 = InputLooksAt app i in
      let fresh : ∥ AreFreshAt p looked x.values ∥₁ = subst (λ (o : Option Tables). ∥ AreFreshAt (present app x.session (rows_told o) moment) looked x.values ∥₁) first x.fresh in
      let again : ∥ AreFreshAt p looked y.values ∥₁ =
      subst (λ (s : SessionState). ∥ AreFreshAt (present app s (rows_told (Some t)) moment) looked y.values ∥₁) one (subst (λ (o : Option Tables). ∥ AreFreshAt (present app y.session (rows_told o) moment) looked y.values ∥₁) second y.fresh) in
      let same = agreed laws.fresh p looked x.values y.values (good x.session x.found) fresh again in
      input_ends laws.running lost lost' app moment name body i.seq x.session x.values (input_target app.names x.session x.values i) t u v a a' b b' said said'
      (subst (λ (o : Option Tables). EndsInput lost app moment name body i.seq x.session x.values (input_target app.names x.session x.values i) o a said (Some u) a') first x.ends)
      (inputs_over p x.values y.values lost' moment name body i.seq x.session i (input_target app.names x.session x.values i) (Some t) (Some v) b b' said' refl same
      (subst (λ (r : Result InputValue Refusal). EndsInput lost' app moment name body i.seq x.session y.values r (Some t) b said' (Some v) b') (input_same app x.session x.values y.values i same)
      (subst (λ (s : SessionState). EndsInput lost' app moment name body i.seq s y.values (input_target app.names s y.values i) (Some t) b said' (Some v) b') one
      (subst (λ (o : Option Tables). EndsInput lost' app moment name body i.seq y.session y.values (input_target app.names y.session y.values i) o b said' (Some v) b') second y.ends))))

  events_alike : (r : Result Event (List ℕ)) → PostsEventChecked lost app moment name body r (Some t) a said (Some u) a' → PostsEventChecked lost' app moment name body r (Some t) b said' (Some v) b' → Alike said said' u v a a' b b'
  events_alike (Err words) x y = refused_alike t u v words words said said' a a' b b' refl x y
  events_alike (Ok e) x y =
      let p : Present = present app x.session (rows_told (Some t)) moment in
      let first : x.seen ≡ Some t = seen_is lost t u x.seen (Some u) refl (event_quiet laws.running lost lost' app moment name body e.seq x.session x.values x.verdict x.seen (Some u) a a' said x.ends) x.stays in
      let second : y.seen ≡ Some t = seen_is lost' t v y.seen (Some v) refl (event_quiet laws.running lost' lost app moment name body e.seq y.session y.values y.verdict y.seen (Some v) b b' said' y.ends) y.stays in
      let one : y.session ≡ x.session = one_session name a b x.session y.session same x.found y.found in
      let looked : ℕ → Type 0 = EventLooksAt app e in
      let fresh : ∥ AreFreshAt p looked x.values ∥₁ = subst (λ (o : Option Tables). ∥ AreFreshAt (present app x.session (rows_told o) moment) looked x.values ∥₁) first x.fresh in
      let again : ∥ AreFreshAt p looked y.values ∥₁ =
      subst (λ (s : SessionState). ∥ AreFreshAt (present app s (rows_told (Some t)) moment) looked y.values ∥₁) one (subst (λ (o : Option Tables). ∥ AreFreshAt (present app y.session (rows_told o) moment) looked y.values ∥₁) second y.fresh) in
      let g = good x.session x.found in
      let same = agreed laws.fresh p looked x.values y.values g fresh again in
      let judged : IsVerdict p x.values (event_target app.names x.session x.values e) x.verdict =
      subst (λ (o : Option Tables). IsVerdict (present app x.session (rows_told o) moment) x.values (event_target app.names x.session x.values e) x.verdict) first x.judged in
      let judged_again : IsVerdict p x.values (event_target app.names x.session x.values e) y.verdict =
      verdict_over p x.values y.values x.session e (event_target app.names x.session x.values e) y.verdict refl same
      (subst (λ (r : Result Target Refusal). IsVerdict p y.values r y.verdict) (event_same app x.session x.values y.values e same)
      (subst (λ (s : SessionState). IsVerdict (present app s (rows_told (Some t)) moment) y.values (event_target app.names s y.values e) y.verdict) one
      (subst (λ (o : Option Tables). IsVerdict (present app y.session (rows_told o) moment) y.values (event_target app.names y.session y.values e) y.verdict) second y.judged))) in
      let verdict : y.verdict ≡ x.verdict = one_verdict laws.value p x.values (event_target app.names x.session x.values e) y.verdict x.verdict g (all_fit p looked x.values fresh) judged_again judged in
      event_ends laws.running lost lost' app moment name body e.seq x.session x.values x.verdict t u v a a' b b' said said'
      (subst (λ (o : Option Tables). EndsEvent lost app moment name body e.seq x.session x.values x.verdict o a said (Some u) a') first x.ends)
      (subst (λ (r : Result Target Refusal). EndsEvent lost' app moment name body e.seq x.session x.values r (Some t) b said' (Some v) b') verdict
      (events_over p x.values y.values lost' moment name body e.seq x.session e y.verdict (Some t) (Some v) b b' said' judged_again same
      (subst (λ (s : SessionState). EndsEvent lost' app moment name body e.seq s y.values y.verdict (Some t) b said' (Some v) b') one
      (subst (λ (o : Option Tables). EndsEvent lost' app moment name body e.seq y.session y.values y.verdict o b said' (Some v) b') second y.ends))))

pub one_outcome : Uses → IsOneOutcome
one_outcome laws before now before' now' app moment name body said said' t u v a b a' b' sound fits same rows = (
  λ x y. inputs_alike laws (SilenceCause before now) (SilenceCause before' now') app moment name body t u v a b a' b' said said' sound fits same rows (checks input_in (λ (i : Input). i.seq) (session_of name a) body) x
      (subst (λ (o : Option SessionState). PostsInputChecked (SilenceCause before' now') app moment name body (checks input_in (λ (i : Input). i.seq) (if_live o) body) (Some t) a' said' (Some v) b') (sym same) y),
  λ x y. events_alike laws (SilenceCause before now) (SilenceCause before' now') app moment name body t u v a b a' b' said said' sound fits same rows (checks event_in (λ (e : Event). e.seq) (session_of name a) body) x
      (subst (λ (o : Option SessionState). PostsEventChecked (SilenceCause before' now') app moment name body (checks event_in (λ (e : Event). e.seq) (if_live o) body) (Some t) a' said' (Some v) b') (sym same) y),
)
