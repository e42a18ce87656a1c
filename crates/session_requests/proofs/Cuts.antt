-- What was written where a request was cut off is among what its whole performings write.
use Rattle.std.proofs.Common.{◌≡◌, ℕ, Bool, true, false, List, [], ◌∷◌, ◌++◌, drop, length, take, Option, None, Some, Result, Ok, Err, refl, sym, subst, ap, ◌∙◌, inl, inr}
use Rattle.std.proofs.Math.Seq.{drop-length}
use Rattle.std.specs.Prelude.{OnErr, slice_get}
use Rattle.std.specs.Option.{option_to_list}
use Rattle.fx_base.proofs.Silences.{goes_two}
use Rattle.fx_base.specs.Silence.{MayFallSilent, IsLater, SilenceCause, Marks}
use Rattle.fx_base.specs.Telling.{Stays}
use Rattle.fx_behave.specs.CutOff.{CutsGoOn, IsCutOff}
use Rattle.fx_behave.specs.Perform.{Performs}
use Rattle.fx_behave.specs.Unique.{GivesOne}
use Rattle.fx_types.specs.Values.{Data}
use Rattle.fx_deeds.specs.State.{WorldState}
use Rattle.fx_deeds.specs.Within.{Within}
use Rattle.fx_env.specs.Scopes.{ScopeValues}
use Rattle.fx_semantics.proofs.Wider.{among_left, among_right}
use Rattle.fx_core.specs.Reads.{IsAmong}
use Rattle.fx_core.specs.declared.sources.Source.{Source}
use Rattle.recalc.specs.app_cells.declared.app.App.{App}
use Rattle.recalc.specs.app_cells.declared.app.CellInfo.{CellInfo}
use Rattle.row_keeper.specs.Tables.{Tables}
use Rattle.session_state.specs.Sessions.{SessionState}
use Rattle.session_requests.specs.WorldContext.{WorldContext, frame, source_gives, ground_of, grounds, state_on}
use Rattle.session_requests.specs.OneActing.{OneActing}
use Rattle.session_requests.specs.Performing.{PerformsCell, outermost_scope}
use Rattle.session_requests.specs.Running.{ActsWriting, IsFollowed, IsPerformed, ShowsScreen, Runs, RunsWriting, ShowsWriting, wrote_acted, wrote_followed, wrote_shown}
use Rattle.session_requests.specs.Scenes.{TablesAndSession, arrived, begun, scene}
use Rattle.session_requests.specs.Triggers.{cell_at}
use Rattle.session_requests.specs.WrittenWhole.{FormulaWrites, GivenAndWrites, IsInAll, RequestWrites, ScreenWrites, TriggerWrites}
use Rattle.session_requests.specs.Writable.{AllSources}
use Rattle.session_requests.specs.declared.trigger.Trigger.{Trigger}
use Rattle.session_requests.specs.declared.trigger.Trigger.TheVariants.{OnVisible}
use Rattle.session_requests.proofs.Beginnings.{performs}
use Rattle.session_requests.proofs.Chains.{goes_as}
use Rattle.session_requests.proofs.WorldEnding.{silent, told_state}
use Rattle.session_requests.proofs.Writable.{all_none, all_then, only_undone}
use Rattle.session_requests.proofs.Written.{front_then, later_two}

-- ---- from one call to the next

-- what holds anyway holds of an error
pub on_any : {T E : Type 0} (r : Result T E) {P : Type 0} → P → OnErr r P
on_any (Ok x) p = tt
on_any (Err e) p = p

-- nothing was written
pub cut_none : (lost : Type 0) (P : Tables → Source → Type 0) (ws : List Source) (x : Option Tables) → ws ≡ [] → MayFallSilent lost (λ (t u : Tables). AllSources (P t) ws) x x
cut_none lost P ws None none = refl
cut_none lost P ws (Some t) none = all_none (P t) ws none

-- nothing more was written
pub cut_same : (lost : Type 0) (P : Tables → Source → Type 0) (ws : List Source) (x : Option Tables) → MayFallSilent lost (λ (t u : Tables). AllSources (P t) (drop (length ws) ws)) x x
cut_same lost P ws x = cut_none lost P (drop (length ws) ws) x (drop-length ws)

pub cut_stayed : (lost : Type 0) (P : Tables → Source → Type 0) (ws : List Source) (x y : Option Tables) → MayFallSilent lost Stays x y → MayFallSilent lost (λ (t u : Tables). AllSources (P t) (drop (length ws) ws)) x y
cut_stayed lost P ws x y h = goes_as lost Stays (λ (t u : Tables). AllSources (P t) (drop (length ws) ws)) (λ t u same. all_none (P t) (drop (length ws) ws) (drop-length ws)) x y h

-- what is among what the one writes is among what the other does
pub cut_more : (lost : Type 0) (P Q : Tables → Source → Type 0) (ws : List Source) (x y : Option Tables) → ((t : Tables) (z : Source) → P t z → Q t z)
    → MayFallSilent lost (λ (t u : Tables). AllSources (P t) ws) x y → MayFallSilent lost (λ (t u : Tables). AllSources (Q t) ws) x y
cut_more lost P Q ws x y more h = goes_as lost (λ (t u : Tables). AllSources (P t) ws) (λ (t u : Tables). AllSources (Q t) ws) (λ t u all z among. more t z (all z among)) x y h

-- of the tables as a transaction began it holds as of those before
as_before : (lost more : Type 0) (P : Tables → Type 0) (s : Tables) (b t : Option Tables) → MayFallSilent lost Stays (Some s) b → MayFallSilent more (λ (u v : Tables). P u) b t → MayFallSilent more (λ (u v : Tables). P s) b t
as_before lost more P s None t e h = h
as_before lost more P s (Some u) None e h = h
as_before lost more P s (Some u) (Some v) e h = subst P e h

of_first : (lost : Type 0) (P : Tables → Type 0) (s : Tables) (y : Option Tables) → MayFallSilent lost (λ (u v : Tables). P s) (Some s) y → MayFallSilent lost (λ (u v : Tables). P u) (Some s) y
of_first lost P s None h = h
of_first lost P s (Some v) h = h

-- a transaction that was begun, and over whose first tables this holds, is taken back
pub cut_undone : (k l m n : Marks) (P : Tables → Type 0) (x b t began y : Option Tables) → IsLater k l → IsLater l m → IsLater m n → MayFallSilent (SilenceCause k l) Stays x b → MayFallSilent (SilenceCause l m) (λ (u v : Tables). P u) b t
    → MayFallSilent (SilenceCause l m) Stays b began → (t ≡ None → began ≡ None) → MayFallSilent (SilenceCause m n) Stays began y → MayFallSilent (SilenceCause k n) (λ (u v : Tables). P u) x y
cut_undone k l m n P None b t began y first second third begins holds stays quiet back =
    only_undone k l m n Unit None b t began y first second third begins (goes_as (SilenceCause l m) (λ (u v : Tables). P u) (λ (u v : Tables). Unit) (λ u v p. tt) b t holds) stays quiet back
cut_undone k l m n P (Some s) b t began y first second third begins holds stays quiet back =
    of_first (SilenceCause k n) P s y (only_undone k l m n (P s) (Some s) b t began y first second third begins (as_before (SilenceCause k l) (SilenceCause l m) P s b t begins holds) stays quiet back)

-- ---- a formula

-- WHAT A FORMULA HAS WRITTEN THAT WAS CUT OFF is among what each whole performing writes, which goes on from there
cut_in : CutsGoOn source_gives → GivesOne source_gives → (a : App) (m : ℕ) (c : CellInfo) (item : Option Data) (began : Option Tables) (t u : Tables) (s r : SessionState) (ws : List Source)
    → IsCutOff (ground_of a) c.core (outermost_scope item) (state_on (grounds a m began) t s []) (state_on (grounds a m began) u r ws) → AllSources (IsInAll (FormulaWrites a m c item t s)) ws
cut_in goes one a m c item began t u s r ws cut = λ x among zs h.
    let acts : PerformsCell a m c item t s h.0 h.1 h.2 zs = h.3 in
    let start : WorldState WorldContext = state_on (grounds a m began) t s [] in
    let end : WorldState WorldContext = state_on (grounds a m began) h.1 h.2 zs in
    let whole : Performs (ground_of a) c.core (outermost_scope item) h.0 start end =
    performs began a c.core (outermost_scope item) (state_on (grounds a m acts.began) t s []) h.0 (state_on (grounds a m acts.began) h.1 h.2 zs) acts.performs in
    let on : Within (state_on (grounds a m began) u r ws) end = goes (frame a) one c.core (outermost_scope item) h.0 start (state_on (grounds a m began) u r ws) end cut whole in
    subst (IsAmong x) (sym on.wrote) (among_left x ws on.more among)

cut_goes : CutsGoOn source_gives → GivesOne source_gives → (lost : Type 0) (a : App) (m : ℕ) (c : CellInfo) (item : Option Data) (began : Option Tables) (day other : Data) (h : WorldContext) (s r : SessionState) (values others : List Data) (us : List Source) (x y : Option Tables)
    → MayFallSilent lost Within (told_state day (grounds a m began) s values [] x) (told_state other h r others us y)
    → MayFallSilent lost (IsCutOff (ground_of a) c.core (outermost_scope item)) (told_state day (grounds a m began) s values [] x) (told_state other h r others us y) → MayFallSilent lost (λ (t u : Tables). AllSources (IsInAll (FormulaWrites a m c item t s)) us) x y
cut_goes goes one lost a m c item began day other h s r values others us None y w e = silent other h r others us y e
cut_goes goes one lost a m c item began day other h s r values others us (Some t) None w e = e
cut_goes goes one lost a m c item began day other h s r values others us (Some t) (Some u) w e =
    cut_in goes one a m c item began t u s r us (subst (λ (g : WorldContext). IsCutOff (ground_of a) c.core (outermost_scope item) (state_on (grounds a m began) t s []) (state_on g u r us)) w.same.app e)

-- the same of one whose app, list of writes and scope are as they are made
pub cut_from : CutsGoOn source_gives → GivesOne source_gives → (lost : Type 0) (a : App) (m : ℕ) (c : CellInfo) (item : Option Data) (scope : ScopeValues) (began : Option Tables) (day other : Data) (h : WorldContext) (s r : SessionState) (values others : List Data) (ws us : List Source)
    (x y : Option Tables) → ws ≡ [] → scope ≡ outermost_scope item → MayFallSilent lost Within (told_state day (grounds a m began) s values ws x) (told_state other h r others us y)
    → MayFallSilent lost (IsCutOff (ground_of a) c.core scope) (told_state day (grounds a m began) s values ws x) (told_state other h r others us y) → MayFallSilent lost (λ (t u : Tables). AllSources (IsInAll (FormulaWrites a m c item t s)) us) x y
cut_from goes one lost a m c item scope began day other h s r values others ws us x y n k w e =
    cut_goes goes one lost a m c item began day other h s r values others us x y
    (subst (λ (zs : List Source). MayFallSilent lost Within (told_state day (grounds a m began) s values zs x) (told_state other h r others us y)) n w)
    (subst (λ (zs : List Source). MayFallSilent lost (IsCutOff (ground_of a) c.core (outermost_scope item)) (told_state day (grounds a m began) s values zs x) (told_state other h r others us y)) n
    (subst (λ (z : ScopeValues). MayFallSilent lost (IsCutOff (ground_of a) c.core z) (told_state day (grounds a m began) s values ws x) (told_state other h r others us y)) k e))

-- ---- the formula of a trigger

acted_in : (a : App) (m : ℕ) (o : Option ℕ) (item : Option Data) (k : ℕ) (c : CellInfo) (t : Tables) (s : SessionState) → o ≡ Some k → slice_get a.cells k ≡ Some c → (x : Source) → IsInAll (FormulaWrites a m c item t s) x
    → (ws : List Source) (value : Data) (u : TablesAndSession) → ActsWriting a m o item (scene t s) value u ws → IsAmong x ws
acted_in a m None item k c t s is there x all ws value u h = absurd cc
acted_in a m (Some j) item k c t s is there x all ws value u (h, wrote) =
    let at : j ≡ k = cc in
    let both : Some h.cell ≡ Some c = sym h.there ∙ ap (slice_get a.cells) at ∙ there in
    let same : h.cell ≡ c = cc in
    subst (IsAmong x) (sym wrote) (all h.wrote (value, u.tables, u.session, subst (λ (d : CellInfo). PerformsCell a m d item t s value u.tables u.session h.wrote) same h.acts))

-- the formula that is written
pub trigger_in : (a : App) (m : ℕ) (trigger : Trigger) (item : Option Data) (k : ℕ) (c : CellInfo) (s : SessionState) → cell_at trigger a ≡ Some k → slice_get a.cells k ≡ Some c
    → (t : Tables) (x : Source) → IsInAll (FormulaWrites a m c item t s) x → IsInAll (TriggerWrites a m trigger item (scene t s)) x
trigger_in a m trigger item k c s is there t x all = λ ws h. acted_in a m (cell_at trigger a) item k c t s is there x all ws h.0 h.1 h.2

-- ---- a screen

-- its formula
pub screen_in : (a : App) (m k : ℕ) (s p : SessionState) → p ≡ arrived s → k ≡ s.screen → (t : Tables) (x : Source) → IsInAll (TriggerWrites a m (OnVisible k) None (scene t p)) x → IsInAll (ScreenWrites a m (scene t s)) x
screen_in a m k s p d screen t x all = λ ws h.
    let shown : ShowsScreen a m (scene t s) h.0 = h.1.0 in
    subst (λ (j : ℕ). IsInAll (TriggerWrites a m (OnVisible j) None (scene t (arrived s))) x) screen (subst (λ (z : SessionState). IsInAll (TriggerWrites a m (OnVisible k) None (scene t z)) x) d all) ws (shown.value, shown.end, (shown.acts, h.1.1))

-- ---- a request

-- its formula is the first part
pub request_in : (a : App) (m : ℕ) (trigger : Trigger) (item : Option Data) (s : SessionState) (t : Tables) (x : Source) → IsInAll (TriggerWrites a m trigger item (scene t s)) x → IsInAll (RequestWrites a m trigger item (scene t s)) x
request_in a m trigger item s t x all = λ ws h.
    let runs : Runs a m trigger item (scene t s) h.0 h.1 = h.2.0 in
    let first : List Source = wrote_acted a m (cell_at trigger a) item (scene t s) h.0 runs.end runs.acts in
    subst (IsAmong x) (sym h.2.1) (among_left x first (wrote_followed a m runs.end.session.navigated runs.end h.1 runs.follows) (all first (h.0, runs.end, (runs.acts, refl))))

-- the value, the end, and what is written
abbrev AreSame : Data → Data → TablesAndSession → TablesAndSession → List Source → List Source → Type 0
AreSame x y t u ws zs = (x ≡ y) × (t ≡ u) × (ws ≡ zs)

module _ (one : OneActing) (a : App) (m : ℕ) where
  -- a formula writes one list
  performed_once : (k : ℕ) (item : Option Data) (s t u : TablesAndSession) (x y : Data) (h : IsPerformed a m k item s x t) (l : IsPerformed a m k item s y u) → AreSame x y t u h.wrote l.wrote
  performed_once k item s t u x y h l =
      let both : Some l.cell ≡ Some h.cell = sym l.there ∙ h.there in
      let same : l.cell ≡ h.cell = cc in
      let w = one a m h.cell item s.tables s.session x y t.tables u.tables t.session u.session h.wrote l.wrote h.acts
      (subst (λ (c : CellInfo). PerformsCell a m c item s.tables s.session y u.tables u.session l.wrote) same l.acts) in
      (w.0, λ i. scene (w.1 i) (w.2 i), w.3)

  acted_once : (o : Option ℕ) (item : Option Data) (s t u : TablesAndSession) (x y : Data) (ws zs : List Source) → ActsWriting a m o item s x t ws → ActsWriting a m o item s y u zs → AreSame x y t u ws zs
  acted_once None item s t u x y ws zs (h, wrote) (l, also) = (h.0 ∙ sym l.0, h.1 ∙ sym l.1, wrote ∙ sym also)
  acted_once (Some k) item s t u x y ws zs (h, wrote) (l, also) =
      let w = performed_once k item s t u x y h l in
      (w.0, w.1, wrote ∙ w.2 ∙ sym also)

  shown_once : (s t u : TablesAndSession) (ws zs : List Source) → ShowsWriting a m s t ws → ShowsWriting a m s u zs → ws ≡ zs
  shown_once s t u ws zs (h, wrote) (l, also) =
      (acted_once (cell_at (OnVisible s.session.screen) a) None (scene s.tables (arrived s.session)) h.end l.end h.value l.value ws zs (h.acts, wrote) (l.acts, also)).2

  followed_once : (b : Bool) (s t u : TablesAndSession) (h : IsFollowed a m b s t) (l : IsFollowed a m b s u) → wrote_followed a m b s t h ≡ wrote_followed a m b s u l
  followed_once true s t u h l = shown_once s t u (wrote_shown a m s t h) (wrote_shown a m s u l) (h, refl) (l, refl)
  followed_once false s t u h l = refl

  -- what follows the end at which all others are
  next_once : (s e t u : TablesAndSession) (same : s ≡ e) (h : IsFollowed a m s.session.navigated s t) (l : IsFollowed a m e.session.navigated e u)
      → wrote_followed a m s.session.navigated s t h ≡ wrote_followed a m e.session.navigated e u l
  next_once s e t u same h l =
      subst (λ (z : TablesAndSession). (k : IsFollowed a m z.session.navigated z u) → wrote_followed a m s.session.navigated s t h ≡ wrote_followed a m z.session.navigated z u k) same (λ k. followed_once s.session.navigated s t u h k) l

  -- A REQUEST WRITES ONE LIST
  run_once : (trigger : Trigger) (item : Option Data) (s t u : TablesAndSession) (x y : Data) (ws zs : List Source) → RunsWriting a m trigger item s x t ws → RunsWriting a m trigger item s y u zs → ws ≡ zs
  run_once trigger item s t u x y ws zs (h, wrote) (l, also) =
      let first : List Source = wrote_acted a m (cell_at trigger a) item s x h.end h.acts in
      let w = acted_once (cell_at trigger a) item s h.end l.end x y first (wrote_acted a m (cell_at trigger a) item s y l.end l.acts) (h.acts, refl) (l.acts, refl) in
      wrote ∙ ap (λ (l : List Source). first ++ l) (next_once h.end l.end t u w.1 h.follows l.follows) ∙ ap (λ (zs : List Source). zs ++ wrote_followed a m l.end.session.navigated l.end u l.follows) w.2 ∙ sym also

  -- what follows an end at which a screen was navigated to is that screen
  next_shown : (e u : TablesAndSession) (r p : SessionState) (t : Tables) → e ≡ scene t r → r.navigated ≡ true → p ≡ arrived r → (l : IsFollowed a m e.session.navigated e u)
      → ScreenWrites a m (scene t p) (wrote_followed a m e.session.navigated e u l)
  next_shown e u r p t same on d l =
      subst (λ (z : TablesAndSession). (k : IsFollowed a m z.session.navigated z u) → ScreenWrites a m (scene t p) (wrote_followed a m z.session.navigated z u k)) (sym same)
      (λ k. subst (λ (q : SessionState). ScreenWrites a m (scene t q) (wrote_followed a m r.navigated (scene t r) u k)) (sym d) (by r.navigated on k)) l
    where
      by : (b : Bool) → b ≡ true → (l : IsFollowed a m b (scene t r) u) → ScreenWrites a m (scene t (arrived r)) (wrote_followed a m b (scene t r) u l)
      by true e l = (u, (record { value = l.value; end = l.end; acts = l.acts; is = l.is }, refl))
      by false e l = absurd cc

-- the formula was performed whole, and the screen was cut off
pub cut_shown : OneActing → (k l n : Marks) (a : App) (m : ℕ) (trigger : Trigger) (item : Option Data) (s r p : SessionState) (value : Data) (us vs ws : List Source) (x y z : Option Tables) → IsLater k l → IsLater l n → r.navigated ≡ true → p ≡ arrived r
    → take (length us) vs ≡ us → take (length vs) ws ≡ vs
    → MayFallSilent (SilenceCause k l) (λ (t u : Tables). ActsWriting a m (cell_at trigger a) item (scene t s) value (scene u r) (drop (length us) vs)) x y
    → MayFallSilent (SilenceCause l n) (λ (t u : Tables). AllSources (IsInAll (ScreenWrites a m (scene t p))) (drop (length vs) ws)) y z
    → MayFallSilent (SilenceCause k n) (λ (t u : Tables). AllSources (IsInAll (RequestWrites a m trigger item (scene t s))) (drop (length us) ws)) x z
cut_shown one k l n a m trigger item s r p value us vs ws x y z before later on d first second acts shows =
    goes_two (λ (t u : Tables). ActsWriting a m (cell_at trigger a) item (scene t s) value (scene u r) (drop (length us) vs)) (λ (t u : Tables). AllSources (IsInAll (ScreenWrites a m (scene t p))) (drop (length vs) ws))
    (λ (t u : Tables). AllSources (IsInAll (RequestWrites a m trigger item (scene t s))) (drop (length us) ws))
    (λ t u v acted cut. subst (AllSources (IsInAll (RequestWrites a m trigger item (scene t s)))) (sym (later_two us vs ws first second)) (λ e among zs h.
    let runs : Runs a m trigger item (scene t s) h.0 h.1 = h.2.0 in
    let begins : List Source = wrote_acted a m (cell_at trigger a) item (scene t s) h.0 runs.end runs.acts in
    let follows : List Source = wrote_followed a m runs.end.session.navigated runs.end h.1 runs.follows in
    let same = acted_once one a m (cell_at trigger a) item (scene t s) runs.end (scene u r) h.0 value begins (drop (length us) vs) (runs.acts, refl) acted in
    let next : ScreenWrites a m (scene u p) follows = next_shown one a m runs.end h.1 r p u same.1 on d runs.follows in
    subst (IsAmong e) (sym h.2.1) (all_then (λ (i : Source). IsAmong i (begins ++ follows)) (drop (length us) vs) (drop (length vs) ws)
    (λ i in_first. among_left i begins follows (subst (IsAmong i) (sym same.2) in_first)) (λ i in_second. among_right i begins follows (cut i in_second follows next)) e among)))
    k l n before later x y z acts shows

-- a request that was performed whole
pub cut_whole : OneActing → (lost : Type 0) (a : App) (m : ℕ) (trigger : Trigger) (item : Option Data) (s r : SessionState) (value : Data) (ws : List Source) (x y : Option Tables)
    → MayFallSilent lost (λ (t u : Tables). RunsWriting a m trigger item (scene t s) value (scene u r) ws) x y → MayFallSilent lost (λ (t u : Tables). AllSources (IsInAll (RequestWrites a m trigger item (scene t s))) ws) x y
cut_whole one lost a m trigger item s r value ws x y h =
    goes_as lost (λ (t u : Tables). RunsWriting a m trigger item (scene t s) value (scene u r) ws) (λ (t u : Tables). AllSources (IsInAll (RequestWrites a m trigger item (scene t s))) ws)
    (λ t u runs e among zs h. subst (IsAmong e) (run_once one a m trigger item (scene t s) (scene u r) h.1 value h.0 ws zs runs h.2) among) x y h

-- what is given or chosen comes first
pub cut_effect : (lost : Type 0) (a : App) (m : ℕ) (trigger : Trigger) (item : Option Data) (given : Option Source) (s : SessionState) (us vs ws : List Source) (x y : Option Tables) → us ≡ [] → vs ≡ us ++ option_to_list given → take (length vs) ws ≡ vs
    → MayFallSilent lost (λ (t u : Tables). AllSources (IsInAll (RequestWrites a m trigger item (scene t (begun s)))) (drop (length vs) ws)) x y
    → MayFallSilent lost (λ (t u : Tables). AllSources (IsInAll (GivenAndWrites a m trigger item (option_to_list given) s t)) ws) x y
cut_effect lost a m trigger item given s us vs ws x y none noted front h =
    goes_as lost (λ (t u : Tables). AllSources (IsInAll (RequestWrites a m trigger item (scene t (begun s)))) (drop (length vs) ws)) (λ (t u : Tables). AllSources (IsInAll (GivenAndWrites a m trigger item (option_to_list given) s t)) ws)
    (λ t u all.
    let P : Source → Type 0 = IsInAll (GivenAndWrites a m trigger item (option_to_list given) s t) in
    let is : vs ≡ option_to_list given = noted ∙ ap (λ (l : List Source). l ++ option_to_list given) none in
    subst (AllSources P) (sym (front_then vs ws front))
    (all_then P vs (drop (length vs) ws) (λ e among xs w. subst (IsAmong e) (sym w.1) (among_left e (option_to_list given) w.0 (subst (IsAmong e) is among)))
    (λ e among xs w. subst (IsAmong e) (sym w.1) (among_right e (option_to_list given) w.0 (all e among w.0 w.2))))) x y h
