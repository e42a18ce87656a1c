-- What was written by an event or an input that was cut off is among what each whole performing of it writes.
use Rattle.std.proofs.Common.{◌≡◌, ℕ, List, [], ◌∷◌, ◌++◌, Option, None, Some, Result, Ok, Err, refl, sym, subst, ◌∙◌}
use Rattle.std.specs.Result.{OnErr}
use Rattle.std.proofs.lemmas.Result.{on_err_weaker}
use Rattle.fx_base.proofs.Silences.{goes_two}
use Rattle.fx_base.specs.Silence.{MayFallSilent, IsLater, SilenceCause, Marks}
use Rattle.fx_base.specs.Telling.{Stays}
use Rattle.fx_types.specs.Values.{Data}
use Rattle.fx_core.specs.declared.sources.Source.{Source}
use Rattle.fx_core.specs.declared.sources.Source.TheVariants as source
use Rattle.recalc.specs.app_cells.declared.app.App.{App}
use Rattle.recalc.specs.app_semantics.Holding.{FittingHolds}
use Rattle.recalc.specs.app_semantics.Laws.{OneFreshAt}
use Rattle.recalc.specs.app_semantics.Present.{Present, present}
use Rattle.recalc.specs.app_semantics.Sound.{IsSoundApp}
use Rattle.recalc.specs.fx_semantics.Unique.{OneValue}
use Rattle.numbered_requests.specs.Directory.{find}
use Rattle.numbered_requests.specs.declared.directory.Named.{Named}
use Rattle.row_keeper.specs.Tables.{Tables, rows_told}
use Rattle.row_requests.proofs.Soundness.{sound_stays}
use Rattle.row_requests.specs.Sound.{AreSound}
use Rattle.session_state.specs.Changes.{FitsNames}
use Rattle.session_state.specs.Sessions.{SessionState}
use Rattle.view_text.specs.declared.refused.Refusal.{Refusal}
use Rattle.session_requests.specs.Acting.{item_chosen, input_trigger, item_seen, with_input, with_target}
use Rattle.session_requests.specs.Caching.{AreFreshAt}
use Rattle.session_requests.specs.Posting.{EventLooksAt, InputLooksAt, IsVerdict}
use Rattle.session_requests.specs.Targets.{InputValue, event_target, input_target}
use Rattle.session_requests.specs.WrittenWhole.{EventWritesWhole, GivenAndWrites, InputGivenWrites, InputWritesWhole, IsInAll, TargetWrites}
use Rattle.session_requests.specs.Writable.{AllSources}
use Rattle.session_requests.specs.declared.event.Event.{Event}
use Rattle.session_requests.specs.declared.input.Input.{Input}
use Rattle.session_requests.specs.declared.target.Target.{Target}
use Rattle.session_requests.specs.declared.trigger.Trigger.{Trigger}
use Rattle.session_requests.specs.declared.trigger.Trigger.TheVariants.{OnSelect}
use Rattle.session_requests.proofs.Chains.{goes_as}
use Rattle.session_requests.proofs.Items.{target_is}
use Rattle.session_requests.proofs.Looked.{event_number, event_same, input_same, seen_same, trigger_same}
use Rattle.session_requests.proofs.Outcomes.{IsGood, agreed, all_fit, known_of, one_session, one_verdict, verdict_ok, verdict_over}
use Rattle.session_requests.proofs.Writable.{all_none}

-- ---- nothing was written

-- it holds, so it holds of an error
pub on_err : {T E P : Type 0} (r : Result T E) → P → OnErr r P
on_err (Ok x) h = tt
on_err (Err e) h = h

-- nothing was called
pub cut_none : (lost : Type 0) (W : Tables → List Source → Type 0) (ws : List Source) (x : Option Tables) → ws ≡ [] → MayFallSilent lost (λ (t u : Tables). AllSources (IsInAll (W t)) ws) x x
cut_none lost W ws None none = refl
cut_none lost W ws (Some t) none = all_none (IsInAll (W t)) ws none

-- what was called left the tables
pub cut_left : (lost : Type 0) (W : Tables → List Source → Type 0) (ws : List Source) (x y : Option Tables) → ws ≡ [] → MayFallSilent lost Stays x y → MayFallSilent lost (λ (t u : Tables). AllSources (IsInAll (W t)) ws) x y
cut_left lost W ws x y none h = goes_as lost Stays (λ (t u : Tables). AllSources (IsInAll (W t)) ws) (λ t u same. all_none (IsInAll (W t)) ws none) x y h

-- ---- from one call to the next

-- what is among all lists of a larger family is among those of a smaller one
in_fewer : (W V : List Source → Type 0) (ws : List Source) → ((xs : List Source) → V xs → W xs) → AllSources (IsInAll W) ws → AllSources (IsInAll V) ws
in_fewer W V ws fewer all = λ s among xs h. all s among xs (fewer xs h)

fewer_told : (lost : Type 0) (W V : Tables → List Source → Type 0) (ws : List Source) (y z : Option Tables) → ((t : Tables) → y ≡ Some t → (xs : List Source) → V t xs → W t xs)
    → MayFallSilent lost (λ (t u : Tables). AllSources (IsInAll (W t)) ws) y z → MayFallSilent lost (λ (t u : Tables). AllSources (IsInAll (V t)) ws) y z
fewer_told lost W V ws None z fewer h = h
fewer_told lost W V ws (Some t) None fewer h = h
fewer_told lost W V ws (Some t) (Some u) fewer h = in_fewer (W t) (V t) ws (fewer t refl) h

-- the first leaves the tables
cut_after : (k l n : Marks) (W V : Tables → List Source → Type 0) (ws : List Source) (x y z : Option Tables) → ((t : Tables) → y ≡ Some t → (xs : List Source) → V t xs → W t xs) → IsLater k l → IsLater l n → MayFallSilent (SilenceCause k l) Stays x y
    → MayFallSilent (SilenceCause l n) (λ (t u : Tables). AllSources (IsInAll (W t)) ws) y z → MayFallSilent (SilenceCause k n) (λ (t u : Tables). AllSources (IsInAll (V t)) ws) x z
cut_after k l n W V ws x y z fewer before later stays h =
    goes_two Stays (λ (t u : Tables). AllSources (IsInAll (V t)) ws) (λ (t u : Tables). AllSources (IsInAll (V t)) ws) (λ t u v same all. subst (λ (w : Tables). AllSources (IsInAll (V w)) ws) same all)
    k l n before later x y z stays (fewer_told (SilenceCause l n) W V ws y z fewer h)

-- two that leave the tables
pub stays_two : (k l n : Marks) (x y z : Option Tables) → IsLater k l → IsLater l n → MayFallSilent (SilenceCause k l) Stays x y → MayFallSilent (SilenceCause l n) Stays y z → MayFallSilent (SilenceCause k n) Stays x z
stays_two k l n x y z before later h e = goes_two Stays Stays Stays (λ t u v same again. again ∙ same) k l n before later x y z h e

-- ---- what is accepted

-- an event that was let through
pub cut_target : {E T : Type 0} (lost : Type 0) (a : App) (m : ℕ) (s r : SessionState) (values : ℕ → Data) (v : Result Target Refusal) (g : Target) (item : Option Data) (given : List Source) (ws : List Source) (x y : Option Tables) (result : Result T E)
    → v ≡ Ok g → item ≡ item_seen a.names values g.item → r ≡ with_target g s → given ≡ item_chosen g.item
    → OnErr result (MayFallSilent lost (λ (t u : Tables). AllSources (IsInAll (GivenAndWrites a m (OnSelect g.control) item given r t)) ws) x y)
    → OnErr result (MayFallSilent lost (λ (t u : Tables). AllSources (IsInAll (TargetWrites a m s values v t)) ws) x y)
cut_target lost a m s r values v g item given ws x y result is seen chosen noted h =
    subst (λ (w : Result Target Refusal). OnErr result (MayFallSilent lost (λ (t u : Tables). AllSources (IsInAll (TargetWrites a m s values w t)) ws) x y)) (sym is)
    (subst (λ (z : Option Data). OnErr result (MayFallSilent lost (λ (t u : Tables). AllSources (IsInAll (GivenAndWrites a m (OnSelect g.control) z (item_chosen g.item) (with_target g s) t)) ws) x y)) seen
    (subst (λ (z : List Source). OnErr result (MayFallSilent lost (λ (t u : Tables). AllSources (IsInAll (GivenAndWrites a m (OnSelect g.control) item z (with_target g s) t)) ws) x y)) noted
    (subst (λ (z : SessionState). OnErr result (MayFallSilent lost (λ (t u : Tables). AllSources (IsInAll (GivenAndWrites a m (OnSelect g.control) item given z t)) ws) x y)) chosen h)))

-- and an input
pub cut_given : {E T : Type 0} (lost : Type 0) (a : App) (m : ℕ) (s r : SessionState) (values : ℕ → Data) (v : Result InputValue Refusal) (g : InputValue) (trigger : Trigger) (ws : List Source) (x y : Option Tables) (result : Result T E)
    → v ≡ Ok g → trigger ≡ input_trigger a.names r values g.0 → r ≡ with_input g s
    → OnErr result (MayFallSilent lost (λ (t u : Tables). AllSources (IsInAll (GivenAndWrites a m trigger None (source.Input g.0 ∷ []) r t)) ws) x y)
    → OnErr result (MayFallSilent lost (λ (t u : Tables). AllSources (IsInAll (InputGivenWrites a m s values v t)) ws) x y)
cut_given lost a m s r values v g trigger ws x y result is acts given h =
    subst (λ (w : Result InputValue Refusal). OnErr result (MayFallSilent lost (λ (t u : Tables). AllSources (IsInAll (InputGivenWrites a m s values w t)) ws) x y)) (sym is)
    (subst (λ (z : SessionState). OnErr result (MayFallSilent lost (λ (t u : Tables). AllSources (IsInAll (GivenAndWrites a m (input_trigger a.names z values g.0) None (source.Input g.0 ∷ []) z t)) ws) x y)) given
    (subst (λ (z : Trigger). OnErr result (MayFallSilent lost (λ (t u : Tables). AllSources (IsInAll (GivenAndWrites a m z None (source.Input g.0 ∷ []) r t)) ws) x y)) acts h))

-- ---- each whole performing comes to the same verdict

-- what is looked at decides what is written
target_over : (p : Present) (values others : ℕ → Data) (s : SessionState) (e : Event) (v : Result Target Refusal) (t : Tables) (xs : List Source) → IsVerdict p values (event_target p.app.names s values e) v
    → ((d : ℕ) → EventLooksAt p.app e d → others d ≡ values d) → TargetWrites p.app p.moment s others v t xs → TargetWrites p.app p.moment s values v t xs
target_over p values others s e (Err r) t xs is h writes = writes
target_over p values others s e (Ok g) t xs is h writes =
    let through = verdict_ok p values (event_target p.app.names s values e) g is in
    subst (λ (o : Option Data). GivenAndWrites p.app p.moment (OnSelect g.control) o (item_chosen g.item) (with_target g s) t xs)
    (seen_same p.app values others e g (target_is p.app.names s values e g through) (event_number p.app.names s values e g through) h) writes

given_over : (a : App) (m : ℕ) (values others : ℕ → Data) (s : SessionState) (i : Input) (v : Result InputValue Refusal) (t : Tables) (xs : List Source) → input_target a.names s values i ≡ v
    → ((d : ℕ) → InputLooksAt a i d → others d ≡ values d) → InputGivenWrites a m s others v t xs → InputGivenWrites a m s values v t xs
given_over a m values others s i (Err r) t xs is h writes = writes
given_over a m values others s i (Ok g) t xs is h writes =
    subst (λ (z : Trigger). GivenAndWrites a m z None (source.Input g.0 ∷ []) (with_input g s) t xs) (trigger_same a s (with_input g s) values others i g is h) writes

module _ (holds : FittingHolds) (one : OneFreshAt) (a : App) (m : ℕ) (name : List ℕ) (s : SessionState) (values : ℕ → Data) (t : Tables) (sessions : List (Named SessionState))
    (sound : IsSoundApp a) (fits : FitsNames a.names s) (found : find name sessions ≡ Some s) (rows : AreSound a.names.schema (Some t)) where
  good : IsGood (present a s (rows_told (Some t)) m)
  good = record { sound = sound; holds = holds a.names s fits; known = known_of a t rows }

  event_performs : OneValue → (e : Event) (v : Result Target Refusal) (xs : List Source) → ∥ AreFreshAt (present a s (rows_told (Some t)) m) (EventLooksAt a e) values ∥₁
      → IsVerdict (present a s (rows_told (Some t)) m) values (event_target a.names s values e) v → EventWritesWhole a m name e t sessions xs → TargetWrites a m s values v t xs
  event_performs value e v xs fresh judged h =
      let p : Present = present a s (rows_told (Some t)) m in
      let looked : ℕ → Type 0 = EventLooksAt a e in
      let own : h.session ≡ s = one_session name sessions sessions s h.session refl found h.found in
      let again : ∥ AreFreshAt p looked h.values ∥₁ = subst (λ (r : SessionState). ∥ AreFreshAt (present a r (rows_told (Some t)) m) looked h.values ∥₁) own h.fresh in
      let same = agreed one p looked values h.values good fresh again in
      let judged_again : IsVerdict p values (event_target a.names s values e) h.verdict =
      verdict_over p values h.values s e (event_target a.names s values e) h.verdict refl same
      (subst (λ (r : Result Target Refusal). IsVerdict p h.values r h.verdict) (event_same a s values h.values e same)
      (subst (λ (r : SessionState). IsVerdict (present a r (rows_told (Some t)) m) h.values (event_target a.names r h.values e) h.verdict) own h.judged)) in
      let verdict : h.verdict ≡ v = one_verdict value p values (event_target a.names s values e) h.verdict v good (all_fit p looked values fresh) judged_again judged in
      subst (λ (r : Result Target Refusal). TargetWrites a m s values r t xs) verdict
      (target_over p values h.values s e h.verdict t xs judged_again same
      (subst (λ (r : SessionState). TargetWrites a m r h.values h.verdict t xs) own h.writes))

  input_performs : (i : Input) (xs : List Source) → ∥ AreFreshAt (present a s (rows_told (Some t)) m) (InputLooksAt a i) values ∥₁
      → InputWritesWhole a m name i t sessions xs → InputGivenWrites a m s values (input_target a.names s values i) t xs
  input_performs i xs fresh h =
      let p : Present = present a s (rows_told (Some t)) m in
      let looked : ℕ → Type 0 = InputLooksAt a i in
      let own : h.session ≡ s = one_session name sessions sessions s h.session refl found h.found in
      let again : ∥ AreFreshAt p looked h.values ∥₁ = subst (λ (r : SessionState). ∥ AreFreshAt (present a r (rows_told (Some t)) m) looked h.values ∥₁) own h.fresh in
      let same = agreed one p looked values h.values good fresh again in
      given_over a m values h.values s i (input_target a.names s values i) t xs refl same
      (subst (λ (r : Result InputValue Refusal). InputGivenWrites a m s h.values r t xs) (input_same a s values h.values i same)
      (subst (λ (r : SessionState). InputGivenWrites a m r h.values (input_target a.names r h.values i) t xs) own h.writes))

-- ---- what was written after the looks is among what each whole performing writes

module _ {E T : Type 0} (holds : FittingHolds) (one : OneFreshAt) (k l n : Marks) (a : App) (m : ℕ) (name : List ℕ) (s : SessionState) (values : ℕ → Data) (sessions : List (Named SessionState)) (ws : List Source) (x y z : Option Tables) (result : Result T E)
    (sound : IsSoundApp a) (fits : FitsNames a.names s) (found : find name sessions ≡ Some s) (rows : AreSound a.names.schema x) (before : IsLater k l) (later : IsLater l n) (stays : MayFallSilent (SilenceCause k l) Stays x y) where
  rows_then : (t : Tables) → y ≡ Some t → AreSound a.names.schema (Some t)
  rows_then t is = subst (AreSound a.names.schema) is (sound_stays a.names.schema (SilenceCause k l) x y rows stays)

  pub event_cut : OneValue → (e : Event) (v : Result Target Refusal) → ∥ AreFreshAt (present a s (rows_told y) m) (EventLooksAt a e) values ∥₁ → IsVerdict (present a s (rows_told y) m) values (event_target a.names s values e) v
      → OnErr result (MayFallSilent (SilenceCause l n) (λ (t u : Tables). AllSources (IsInAll (TargetWrites a m s values v t)) ws) y z)
      → OnErr result (MayFallSilent (SilenceCause k n) (λ (t u : Tables). AllSources (IsInAll (EventWritesWhole a m name e t sessions)) ws) x z)
  event_cut value e v fresh judged h =
      on_err_weaker result (cut_after k l n (λ (t : Tables). TargetWrites a m s values v t) (λ (t : Tables). EventWritesWhole a m name e t sessions) ws x y z
      (λ t is xs. event_performs holds one a m name s values t sessions sound fits found (rows_then t is) value e v xs
      (subst (λ (o : Option Tables). ∥ AreFreshAt (present a s (rows_told o) m) (EventLooksAt a e) values ∥₁) is fresh)
      (subst (λ (o : Option Tables). IsVerdict (present a s (rows_told o) m) values (event_target a.names s values e) v) is judged))
      before later stays) h

  pub input_cut : (i : Input) (v : Result InputValue Refusal) → ∥ AreFreshAt (present a s (rows_told y) m) (InputLooksAt a i) values ∥₁ → v ≡ input_target a.names s values i
      → OnErr result (MayFallSilent (SilenceCause l n) (λ (t u : Tables). AllSources (IsInAll (InputGivenWrites a m s values v t)) ws) y z)
      → OnErr result (MayFallSilent (SilenceCause k n) (λ (t u : Tables). AllSources (IsInAll (InputWritesWhole a m name i t sessions)) ws) x z)
  input_cut i v fresh judged h =
      on_err_weaker result (cut_after k l n (λ (t : Tables). InputGivenWrites a m s values v t) (λ (t : Tables). InputWritesWhole a m name i t sessions) ws x y z
      (λ t is xs whole. subst (λ (r : Result InputValue Refusal). InputGivenWrites a m s values r t xs) (sym judged) (input_performs holds one a m name s values t sessions sound fits found (rows_then t is) i xs
      (subst (λ (o : Option Tables). ∥ AreFreshAt (present a s (rows_told o) m) (InputLooksAt a i) values ∥₁) is fresh) whole))
      before later stays) h
