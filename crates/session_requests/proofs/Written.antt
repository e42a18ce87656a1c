-- The sources that are written, one after another.
use Rattle.std.proofs.Common.{◌≡◌, ◌≤◌, ◌+◌, ℕ, Bool, true, false, List, [], ◌∷◌, ◌++◌, drop, length, take, Option, None, Some, Result, Ok, Err, refl, sym, subst, ap, ◌∙◌, arith}
use Rattle.std.proofs.Math.Seq.{drop-length}
use Rattle.std.proofs.lemmas.List.{append-nil, length-append, take-append-drop}
use Rattle.std.proofs.lemmas.Result.{IfOk-weaker}
use Rattle.fx_base.proofs.Silences.{goes_two, later_then, lost_before}
use Rattle.fx_base.specs.Silence.{MayFallSilent, IsLater, SilenceCause, Marks}
use Rattle.fx_base.specs.Telling.{Stays}
use Rattle.fx_types.specs.Values.{Data, blank}
use Rattle.fx_core.specs.declared.sources.Source.{Source}
use Rattle.fx_core.specs.declared.sources.Source.TheVariants as source
use Rattle.recalc.specs.app_cells.declared.app.App.{App}
use Rattle.recalc.specs.app_cells.declared.app.CellInfo.{CellInfo}
use Rattle.row_keeper.specs.Tables.{Tables}
use Rattle.session_state.specs.Sessions.{SessionState}
use Rattle.std.specs.Prelude.{IfOk, slice_get}
use Rattle.session_requests.proofs.Caches.{earlier_more, later_more}
use Rattle.session_requests.proofs.Chains.{goes_as}
use Rattle.session_requests.proofs.Resting.{arrived_same}
use Rattle.session_requests.specs.Acting.{EffectWrites, EventWrites, InputWrites, item_chosen, input_trigger, item_seen, with_input, with_target}
use Rattle.session_requests.specs.Performing.{PerformsCell}
use Rattle.session_requests.specs.Running.{ActsWriting, IsFollowed, ShowsScreen, OpensWriting, RunsWriting, ShowsWriting, wrote_acted, wrote_followed, wrote_shown}
use Rattle.session_requests.specs.Scenes.{TablesAndSession, arrived, begun, scene}
use Rattle.session_requests.specs.Triggers.{cell_at}
use Rattle.session_requests.specs.declared.trigger.Trigger.{Trigger}
use Rattle.session_requests.specs.declared.trigger.Trigger.TheVariants.{OnSelect, OnStart, OnVisible}
use Rattle.numbered_requests.specs.declared.reply.Reply.{Reply}
use Rattle.session_requests.specs.Targets.{InputValue}
use Rattle.session_requests.specs.declared.target.Target.{Target}
use Rattle.view_text.specs.declared.refused.Refusal.{Refusal}

-- ---- lists that grow

-- what was written before stands in front
pub front_then : (xs ys : List Source) → take (length xs) ys ≡ xs → ys ≡ xs ++ drop (length xs) ys
front_then xs ys front = sym (take-append-drop (length xs) ys) ∙ ap (λ (l : List Source). l ++ drop (length xs) ys) front

front_low : (xs ys : List Source) → take (length xs) ys ≡ xs → length xs ≤ length ys
front_low xs ys front =
    let long : length ys ≡ length xs + length (drop (length xs) ys) = ap length (front_then xs ys front) ∙ length-append xs (drop (length xs) ys) in
    omega (arith, long)

pub front_two : (xs ys zs : List Source) → take (length xs) ys ≡ xs → take (length ys) zs ≡ ys → take (length xs) zs ≡ xs
front_two xs ys zs first second = ap (take (length xs)) (front_then ys zs second) ∙ earlier_more (length xs) ys (drop (length ys) zs) (front_low xs ys first) ∙ first

pub later_two : (xs ys zs : List Source) → take (length xs) ys ≡ xs → take (length ys) zs ≡ ys → drop (length xs) zs ≡ drop (length xs) ys ++ drop (length ys) zs
later_two xs ys zs first second = ap (drop (length xs)) (front_then ys zs second) ∙ later_more (length xs) ys (drop (length ys) zs) (front_low xs ys first)

-- ---- formulas that act

-- the formula that is written
pub some_written : (a : App) (m : ℕ) (o : Option ℕ) (item : Option Data) (k : ℕ) (c : CellInfo) (s r : SessionState) (value : Data) (ws : List Source) (lost : Type 0) (x y : Option Tables)
    → o ≡ Some k → slice_get a.cells k ≡ Some c → MayFallSilent lost (λ (t u : Tables). PerformsCell a m c item t s value u r ws) x y → MayFallSilent lost (λ (t u : Tables). ActsWriting a m o item (scene t s) value (scene u r) ws) x y
some_written a m o item k c s r value ws lost x y e there h =
    goes_as lost (λ (t u : Tables). PerformsCell a m c item t s value u r ws) (λ (t u : Tables). ActsWriting a m o item (scene t s) value (scene u r) ws)
    (λ t u acts. subst (λ (p : Option ℕ). ActsWriting a m p item (scene t s) value (scene u r) ws) (sym e) (record { cell = c; there = there; wrote = ws; acts = acts }, refl)) x y h

-- where none is
pub none_written : (a : App) (m : ℕ) (o : Option ℕ) (item : Option Data) (s : SessionState) (ws : List Source) (lost : Type 0) (x : Option Tables) → o ≡ None → MayFallSilent lost (λ (t u : Tables). ActsWriting a m o item (scene t s) blank (scene u s) (drop (length ws) ws)) x x
none_written a m o item s ws lost None e = refl
none_written a m o item s ws lost (Some t) e = subst (λ (p : Option ℕ). ActsWriting a m p item (scene t s) blank (scene t s) (drop (length ws) ws)) (sym e) ((refl, refl), drop-length ws)

-- a screen that is shown
pub shown_written : (a : App) (m k : ℕ) (s p r q : SessionState) (value : Data) (ws : List Source) (lost : Type 0) (x y : Option Tables) → p ≡ arrived s → q ≡ arrived r → k ≡ s.screen
    → MayFallSilent lost (λ (t u : Tables). ActsWriting a m (cell_at (OnVisible k) a) None (scene t p) value (scene u r) ws) x y → MayFallSilent lost (λ (t u : Tables). ShowsWriting a m (scene t s) (scene u q) ws) x y
shown_written a m k s p r q value ws lost x y d e screen h =
    goes_as lost (λ (t u : Tables). ActsWriting a m (cell_at (OnVisible s.screen) a) None (scene t (arrived s)) value (scene u r) ws) (λ (t u : Tables). ShowsWriting a m (scene t s) (scene u q) ws)
    (λ t u acts. (record { value = value; end = scene u r; acts = acts.0; is = ap (scene u) e }, acts.1)) x y
    (subst (λ (j : ℕ). MayFallSilent lost (λ (t u : Tables). ActsWriting a m (cell_at (OnVisible j) a) None (scene t (arrived s)) value (scene u r) ws) x y) screen
    (subst (λ (z : SessionState). MayFallSilent lost (λ (t u : Tables). ActsWriting a m (cell_at (OnVisible k) a) None (scene t z) value (scene u r) ws) x y) d h))

-- ---- a request

follows_shown : (a : App) (m : ℕ) (b : Bool) (s t : TablesAndSession) → b ≡ true → (h : ShowsScreen a m s t) → (f : IsFollowed a m b s t) × (wrote_followed a m b s t f ≡ wrote_shown a m s t h)
follows_shown a m true s t e h = (h, refl)
follows_shown a m false s t e h = absurd cc

follows_none : (a : App) (m : ℕ) (b : Bool) (s t : TablesAndSession) → b ≡ false → t ≡ s → (f : IsFollowed a m b s t) × (wrote_followed a m b s t f ≡ [])
follows_none a m true s t e h = absurd cc
follows_none a m false s t e h = (h, refl)

-- no screen was navigated to
pub alone_written : (lost : Type 0) (a : App) (m : ℕ) (trigger : Trigger) (item : Option Data) (s r q : SessionState) (value : Data) (ws : List Source) (x y : Option Tables) → r.navigated ≡ false → q ≡ r
    → MayFallSilent lost (λ (t u : Tables). ActsWriting a m (cell_at trigger a) item (scene t s) value (scene u r) ws) x y → MayFallSilent lost (λ (t u : Tables). RunsWriting a m trigger item (scene t s) value (scene u q) ws) x y
alone_written lost a m trigger item s r q value ws x y e d h =
    goes_as lost (λ (t u : Tables). ActsWriting a m (cell_at trigger a) item (scene t s) value (scene u r) ws) (λ (t u : Tables). RunsWriting a m trigger item (scene t s) value (scene u q) ws)
    (λ t u acts.
    let none = follows_none a m r.navigated (scene u r) (scene u q) e (ap (scene u) d) in
    let by : List Source = wrote_acted a m (cell_at trigger a) item (scene t s) value (scene u r) acts.0 in
    (record { end = scene u r; acts = acts.0; follows = none.0 }, acts.1 ∙ sym (append-nil by) ∙ ap (λ (l : List Source). by ++ l) (sym none.1))) x y h

-- the screen is shown that was
pub both_written : (k l n : Marks) (a : App) (m : ℕ) (trigger : Trigger) (item : Option Data) (s r p q : SessionState) (value : Data) (us vs ws : List Source) (x y z : Option Tables) → IsLater k l → IsLater l n → r.navigated ≡ true → p ≡ arrived r
    → take (length us) vs ≡ us → take (length vs) ws ≡ vs
    → MayFallSilent (SilenceCause k l) (λ (t u : Tables). ActsWriting a m (cell_at trigger a) item (scene t s) value (scene u r) (drop (length us) vs)) x y
    → MayFallSilent (SilenceCause l n) (λ (t u : Tables). ShowsWriting a m (scene t p) (scene u q) (drop (length vs) ws)) y z
    → MayFallSilent (SilenceCause k n) (λ (t u : Tables). RunsWriting a m trigger item (scene t s) value (scene u q) (drop (length us) ws)) x z
both_written k l n a m trigger item s r p q value us vs ws x y z before later e d first second acts shows =
    goes_two (λ (t u : Tables). ActsWriting a m (cell_at trigger a) item (scene t s) value (scene u r) (drop (length us) vs)) (λ (t u : Tables). ShowsWriting a m (scene t (arrived r)) (scene u q) (drop (length vs) ws))
    (λ (t u : Tables). RunsWriting a m trigger item (scene t s) value (scene u q) (drop (length us) ws))
    (λ t u v acted shown.
    let h : ShowsScreen a m (scene u r) (scene v q) = record { value = shown.0.value; end = shown.0.end; acts = shown.0.acts; is = shown.0.is } in
    let next = follows_shown a m r.navigated (scene u r) (scene v q) e h in
    let by : List Source = wrote_acted a m (cell_at trigger a) item (scene t s) value (scene u r) acted.0 in
    (record { end = scene u r; acts = acted.0; follows = next.0 }, later_two us vs ws first second ∙ ap (λ (l : List Source). l ++ drop (length vs) ws) acted.1 ∙ ap (λ (l : List Source). by ++ l) (shown.1 ∙ sym next.1)))
    k l n before later x y z acts
    (subst (λ (w : SessionState). MayFallSilent (SilenceCause l n) (λ (t u : Tables). ShowsWriting a m (scene t w) (scene u q) (drop (length vs) ws)) y z) d shows)

-- a session that is opened
pub opened_written : (k l n : Marks) (a : App) (m : ℕ) (s r q : SessionState) (value : Data) (us vs ws : List Source) (x y z : Option Tables) → IsLater k l → IsLater l n
    → take (length us) vs ≡ us → take (length vs) ws ≡ vs
    → MayFallSilent (SilenceCause k l) (λ (t u : Tables). ActsWriting a m (cell_at OnStart a) None (scene t s) value (scene u r) (drop (length us) vs)) x y
    → MayFallSilent (SilenceCause l n) (λ (t u : Tables). ShowsWriting a m (scene t r) (scene u q) (drop (length vs) ws)) y z
    → MayFallSilent (SilenceCause k n) (λ (t u : Tables). OpensWriting a m (scene t s) (scene u q) (drop (length us) ws)) x z
opened_written k l n a m s r q value us vs ws x y z before later first second acts shows =
    goes_two (λ (t u : Tables). ActsWriting a m (cell_at OnStart a) None (scene t s) value (scene u r) (drop (length us) vs)) (λ (t u : Tables). ShowsWriting a m (scene t r) (scene u q) (drop (length vs) ws))
    (λ (t u : Tables). OpensWriting a m (scene t s) (scene u q) (drop (length us) ws))
    (λ t u v acted shown.
    let by : List Source = wrote_acted a m (cell_at OnStart a) None (scene t s) value (scene u r) acted.0 in
    (record { value = value; end = scene u r; acts = acted.0; shown = shown.0 }, later_two us vs ws first second ∙ ap (λ (l : List Source). l ++ drop (length vs) ws) acted.1 ∙ ap (λ (l : List Source). by ++ l) shown.1))
    k l n before later x y z acts shows

-- a session that navigated nowhere has arrived
pub arrived_same_as : (s q : SessionState) → s.navigated ≡ false → q ≡ arrived s → q ≡ s
arrived_same_as s q e d = d ∙ arrived_same s e

-- three calls of which the first and the last leave tables
pub told_through : (k l m n : Marks) (P : Tables → Tables → Type 0) (x b t y : Option Tables) → IsLater k l → IsLater l m → IsLater m n → MayFallSilent (SilenceCause k l) Stays x b → MayFallSilent (SilenceCause l m) P b t → MayFallSilent (SilenceCause m n) Stays t y → MayFallSilent (SilenceCause k n) P x y
told_through k l m n P x b t y first second third stays goes ends =
    goes_two P Stays P (λ (a c d : Tables) p e. subst (λ (z : Tables). P a z) (sym e) p) k m n (later_then k l m first second) third x t y
    (goes_two Stays P P (λ (a c d : Tables) e p. subst (λ (z : Tables). P z d) e p) k l m first second x b t stays goes) ends

-- ---- inputs and events

-- it is lost for less
goes_lost : (lost more : Type 0) (P : Tables → Tables → Type 0) (x y : Option Tables) → (lost → more) → MayFallSilent lost P x y → MayFallSilent more P x y
goes_lost lost more P None y see h = h
goes_lost lost more P (Some t) None see h = see h
goes_lost lost more P (Some t) (Some u) see h = h

effect_lost : (lost more : Type 0) (app : App) (m : ℕ) (trigger : Trigger) (item : Option Data) (given : List Source) (s : SessionState) (told told' : Option Tables) (xs : List Source) → (lost → more)
    → EffectWrites lost app m trigger item given s told told' xs → EffectWrites more app m trigger item given s told told' xs
effect_lost lost more app m trigger item given s told told' xs see (ws, is, (value, end, runs)) =
    (ws, is, (value, end, goes_lost lost more (λ (t u : Tables). RunsWriting app m trigger item (scene t (begun s)) value (scene u end) ws) told told' see runs))

pub input_writes_lost : (k l n : Marks) (app : App) (m : ℕ) (s : SessionState) (values : ℕ → Data) (v : Result InputValue Refusal) (told told' : Option Tables) (xs : List Source) → IsLater k l
    → InputWrites (SilenceCause l n) app m s values v told told' xs → InputWrites (SilenceCause k n) app m s values v told told' xs
input_writes_lost k l n app m s values (Err r) told told' xs before h = h
input_writes_lost k l n app m s values (Ok g) told told' xs before h = effect_lost (SilenceCause l n) (SilenceCause k n) app m _ None (source.Input g.0 ∷ []) (with_input g s) told told' xs (lost_before k l n before) h

pub event_writes_lost : (k l n : Marks) (app : App) (m : ℕ) (s : SessionState) (values : ℕ → Data) (v : Result Target Refusal) (told told' : Option Tables) (xs : List Source) → IsLater k l
    → EventWrites (SilenceCause l n) app m s values v told told' xs → EventWrites (SilenceCause k n) app m s values v told told' xs
event_writes_lost k l n app m s values (Err r) told told' xs before h = h
event_writes_lost k l n app m s values (Ok t) told told' xs before h = effect_lost (SilenceCause l n) (SilenceCause k n) app m (OnSelect t.control) _ (item_chosen t.item) (with_target t s) told told' xs (lost_before k l n before) h

-- what an event writes that was let through
pub event_written : {E : Type 0} (lost : Type 0) (app : App) (m : ℕ) (s r : SessionState) (values : ℕ → Data) (v : Result Target Refusal) (t : Target) (item : Option Data) (given : List Source) (told told' : Option Tables) (xs : List Source) (result : Result Reply E)
    → v ≡ Ok t → item ≡ item_seen app.names values t.item → r ≡ with_target t s → given ≡ item_chosen t.item
    → IfOk result (λ _. EffectWrites lost app m (OnSelect t.control) item given r told told' xs) → IfOk result (λ _. EventWrites lost app m s values v told told' xs)
event_written lost app m s r values v t item given told told' xs result is seen chosen noted h =
    IfOk-weaker result _ _ (λ reply writes.
    subst (λ (w : Result Target Refusal). EventWrites lost app m s values w told told' xs) (sym is)
    (subst (λ (z : Option Data). EffectWrites lost app m (OnSelect t.control) z (item_chosen t.item) (with_target t s) told told' xs) seen
    (subst (λ (z : List Source). EffectWrites lost app m (OnSelect t.control) item z (with_target t s) told told' xs) noted
    (subst (λ (z : SessionState). EffectWrites lost app m (OnSelect t.control) item given z told told' xs) chosen writes)))) h

-- and an input
pub input_written : {E : Type 0} (lost : Type 0) (app : App) (m : ℕ) (s r : SessionState) (values : ℕ → Data) (v : Result InputValue Refusal) (g : InputValue) (trigger : Trigger) (told told' : Option Tables) (xs : List Source) (result : Result Reply E)
    → v ≡ Ok g → trigger ≡ input_trigger app.names r values g.0 → r ≡ with_input g s
    → IfOk result (λ _. EffectWrites lost app m trigger None (source.Input g.0 ∷ []) r told told' xs) → IfOk result (λ _. InputWrites lost app m s values v told told' xs)
input_written lost app m s r values v g trigger told told' xs result is acts given h =
    IfOk-weaker result _ _ (λ reply writes.
    subst (λ (w : Result InputValue Refusal). InputWrites lost app m s values w told told' xs) (sym is)
    (subst (λ (z : SessionState). EffectWrites lost app m (input_trigger app.names z values g.0) None (source.Input g.0 ∷ []) z told told' xs) given
    (subst (λ (z : Trigger). EffectWrites lost app m z None (source.Input g.0 ∷ []) r told told' xs) acts writes))) h

-- both are so
pub ok_both : {X E : Type 0} (P Q : X → Type 0) (r : Result X E) → IfOk r P → IfOk r Q → IfOk r (λ x. P x × Q x)
ok_both P Q (Ok x) p q = (p, q)
ok_both P Q (Err e) p q = tt
