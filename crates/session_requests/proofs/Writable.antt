-- What requests may have written, from one call to the next.
use Rattle.std.proofs.Common.{◌≡◌, ℕ, Bool, true, false, List, [], ◌∷◌, ◌++◌, drop, length, take, Option, None, Some, Result, Ok, Err, refl, sym, subst, ap, ◌∙◌, inl, inr}
use Rattle.std.proofs.Math.Seq.{drop-length}
use Rattle.std.specs.Prelude.{IfSome, slice_get}
use Rattle.std.specs.Option.{option_to_list}
use Rattle.fx_base.proofs.Silences.{goes_two, later_then}
use Rattle.fx_base.specs.Silence.{MayFallSilent, IsLater, SilenceCause, Marks}
use Rattle.fx_base.specs.Telling.{Stays}
use Rattle.fx_behave.specs.Writable.{MayWrite}
use Rattle.fx_types.specs.Values.{Data}
use Rattle.fx_types.specs.declared.controls.Control.{Control}
use Rattle.fx_types.specs.declared.controls.Control.TheVariants as control
use Rattle.fx_core.specs.Reads.{IsAmong}
use Rattle.fx_core.specs.declared.names.ControlName.{ControlName}
use Rattle.fx_core.specs.declared.names.Names.{Names}
use Rattle.fx_core.specs.declared.sources.Source.{Source}
use Rattle.fx_core.specs.declared.sources.Source.TheVariants as source
use Rattle.recalc.specs.app_cells.declared.app.App.{App}
use Rattle.recalc.specs.app_cells.declared.app.CellInfo.{CellInfo}
use Rattle.recalc.specs.app_semantics.Present.{Present, input_of}
use Rattle.recalc.specs.app_semantics.Properties.{is_true}
use Rattle.row_keeper.specs.Tables.{Tables}
use Rattle.session_state.specs.Sessions.{SessionState}
use Rattle.view_text.specs.declared.refused.Refusal.{Refusal}
use Rattle.session_requests.specs.Acting.{item_chosen, input_trigger, trigger_at, trigger_of}
use Rattle.session_requests.specs.Posting.{IsVerdict}
use Rattle.session_requests.specs.Shown.{control_number, is_shown_or_in_shown_gallery}
use Rattle.session_requests.specs.Targets.{InputValue, IsItemRow, event_at, event_named, event_target, event_gallery, value_given_to, greatest_of, has_event, input_at, input_by, input_named, input_target, least_of, or_refused, takes_input, with_item}
use Rattle.session_requests.specs.Writable.{AllSources, CellMayWrite, ControlMayWrite, EffectMayWrite, EventMayWrite, GivenMayWrite, InputMayWrite, IsChosenOf, RequestMayWrite, TargetMayWrite}
use Rattle.session_requests.specs.declared.event.Event.{Event}
use Rattle.session_requests.specs.declared.input.Input.{Input}
use Rattle.session_requests.specs.declared.target.Item.{Item}
use Rattle.session_requests.specs.declared.target.Target.{Target}
use Rattle.session_requests.specs.declared.trigger.Trigger.{Trigger}
use Rattle.session_requests.specs.declared.trigger.Trigger.TheVariants.{OnSelect}
use Rattle.session_requests.proofs.Chains.{goes_as}
use Rattle.session_requests.proofs.Items.{row_ok, target_is}
use Rattle.session_requests.proofs.Judging.{given_ok, or_ok}
use Rattle.session_requests.proofs.Written.{front_then, later_two}

-- ---- lists of sources

-- nothing is among none
pub all_none : (P : Source → Type 0) (ws : List Source) → ws ≡ [] → AllSources P ws
all_none P ws none = λ x among. absurd (subst (IsAmong x) none among)

pub all_then : (P : Source → Type 0) (xs ys : List Source) → AllSources P xs → AllSources P ys → AllSources P (xs ++ ys)
all_then P [] ys first second = second
all_then P (x ∷ xs) ys first second = λ z among. elim among [ inl e ↦ first z (inl e) | inr later ↦ all_then P xs ys (λ y h. first y (inr h)) second z later ]

-- ---- from one call to the next

-- nothing was called
pub only_none : (lost : Type 0) (P : Source → Type 0) (ws : List Source) (x : Option Tables) → ws ≡ [] → MayFallSilent lost (λ (t u : Tables). AllSources P ws) x x
only_none lost P ws None none = refl
only_none lost P ws (Some t) none = all_none P ws none

-- what was called left the tables
pub only_left : (lost : Type 0) (P : Source → Type 0) (ws : List Source) (x y : Option Tables) → ws ≡ [] → MayFallSilent lost Stays x y → MayFallSilent lost (λ (t u : Tables). AllSources P ws) x y
only_left lost P ws x y none h = goes_as lost Stays (λ (t u : Tables). AllSources P ws) (λ t u same. all_none P ws none) x y h

-- where nothing more was written
pub only_same : (lost : Type 0) (P : Source → Type 0) (ws : List Source) (x : Option Tables) → MayFallSilent lost (λ (t u : Tables). AllSources P (drop (length ws) ws)) x x
only_same lost P ws x = only_none lost P (drop (length ws) ws) x (drop-length ws)

pub only_stayed : (lost : Type 0) (P : Source → Type 0) (ws : List Source) (x y : Option Tables) → MayFallSilent lost Stays x y → MayFallSilent lost (λ (t u : Tables). AllSources P (drop (length ws) ws)) x y
only_stayed lost P ws x y h = only_left lost P (drop (length ws) ws) x y (drop-length ws) h

-- more may be written
pub only_more : (lost : Type 0) (P Q : Source → Type 0) (ws : List Source) (x y : Option Tables) → ((z : Source) → P z → Q z) → MayFallSilent lost (λ (t u : Tables). AllSources P ws) x y → MayFallSilent lost (λ (t u : Tables). AllSources Q ws) x y
only_more lost P Q ws x y more h = goes_as lost (λ (t u : Tables). AllSources P ws) (λ (t u : Tables). AllSources Q ws) (λ t u all z among. more z (all z among)) x y h

-- two that write
pub only_two : (k l n : Marks) (P Q R : Source → Type 0) (us vs ws : List Source) (x y z : Option Tables) → ((s : Source) → P s → R s) → ((s : Source) → Q s → R s) → IsLater k l → IsLater l n
    → take (length us) vs ≡ us → take (length vs) ws ≡ vs
    → MayFallSilent (SilenceCause k l) (λ (t u : Tables). AllSources P (drop (length us) vs)) x y → MayFallSilent (SilenceCause l n) (λ (t u : Tables). AllSources Q (drop (length vs) ws)) y z
    → MayFallSilent (SilenceCause k n) (λ (t u : Tables). AllSources R (drop (length us) ws)) x z
only_two k l n P Q R us vs ws x y z one other before later first second h e =
    goes_two (λ (t u : Tables). AllSources P (drop (length us) vs)) (λ (t u : Tables). AllSources Q (drop (length vs) ws)) (λ (t u : Tables). AllSources R (drop (length us) ws))
    (λ t u v all rest. subst (AllSources R) (sym (later_two us vs ws first second)) (all_then R (drop (length us) vs) (drop (length vs) ws) (λ s among. one s (all s among)) (λ s among. other s (rest s among))))
    k l n before later x y z h e

-- the first leaves the tables
pub only_after : (k l n : Marks) (P Q : Source → Type 0) (ws : List Source) (x y z : Option Tables) → ((s : Source) → P s → Q s) → IsLater k l → IsLater l n → MayFallSilent (SilenceCause k l) Stays x y
    → MayFallSilent (SilenceCause l n) (λ (t u : Tables). AllSources P ws) y z → MayFallSilent (SilenceCause k n) (λ (t u : Tables). AllSources Q ws) x z
only_after k l n P Q ws x y z more before later stays h =
    goes_two Stays (λ (t u : Tables). AllSources P ws) (λ (t u : Tables). AllSources Q ws) (λ t u v same all s among. more s (all s among)) k l n before later x y z stays h

-- ---- an undo

was_some : (lost : Type 0) (x y : Option Tables) (u : Tables) → y ≡ Some u → MayFallSilent lost Stays x y → (t : Tables) × (x ≡ Some t)
was_some lost None y u is h = absurd (let no : None ≡ Some u = sym h ∙ is in cc)
was_some lost (Some t) y u is h = (t, refl)

still_some : (x y : Option Tables) (u : Tables) → (x ≡ None → y ≡ None) → y ≡ Some u → (t : Tables) × (x ≡ Some t)
still_some None y u quiet is = absurd (let no : None ≡ Some u = sym (quiet refl) ∙ is in cc)
still_some (Some t) y u quiet is = (t, refl)

it_holds : (lost : Type 0) (Q : Type 0) (x y : Option Tables) (u : Tables) → y ≡ Some u → MayFallSilent lost (λ (s t : Tables). Q) x y → Q
it_holds lost Q None y u is h = absurd (let no : None ≡ Some u = sym h ∙ is in cc)
it_holds lost Q (Some t) None u is h = absurd cc
it_holds lost Q (Some t) (Some v) u is h = h

where_told : (lost : Type 0) (Q : Type 0) (x y : Option Tables) → ((u : Tables) → y ≡ Some u → Q) → MayFallSilent lost Stays x y → MayFallSilent lost (λ (s t : Tables). Q) x y
where_told lost Q None y so h = h
where_told lost Q (Some t) None so h = h
where_told lost Q (Some t) (Some u) so h = so u refl

-- a transaction that was begun, and in which this holds, is taken back
pub only_undone : (k l m n : Marks) (Q : Type 0) (x b t began y : Option Tables) → IsLater k l → IsLater l m → IsLater m n → MayFallSilent (SilenceCause k l) Stays x b → MayFallSilent (SilenceCause l m) (λ (u v : Tables). Q) b t
    → MayFallSilent (SilenceCause l m) Stays b began → (t ≡ None → began ≡ None) → MayFallSilent (SilenceCause m n) Stays began y → MayFallSilent (SilenceCause k n) (λ (u v : Tables). Q) x y
only_undone k l m n Q x b t began y first second third begins holds stays quiet back =
    where_told (SilenceCause k n) Q x y
    (λ u is.
    let before = was_some (SilenceCause m n) began y u is back in
    let there = still_some t began before.0 quiet before.1 in
    it_holds (SilenceCause l m) Q b t there.0 there.1 holds)
    (goes_two Stays Stays Stays (λ u v w e d. d ∙ e) k m n (later_then k l m first second) third x began y (goes_two Stays Stays Stays (λ u v w e d. d ∙ e) k l m first second x b began begins stays) back)

-- a transaction that is ended
pub only_ended : (k l m n : Marks) (Q : Type 0) (x b t y : Option Tables) → IsLater k l → IsLater l m → IsLater m n → MayFallSilent (SilenceCause k l) Stays x b → MayFallSilent (SilenceCause l m) (λ (u v : Tables). Q) b t → MayFallSilent (SilenceCause m n) Stays t y
    → MayFallSilent (SilenceCause k n) (λ (u v : Tables). Q) x y
only_ended k l m n Q x b t y first second third begins holds ends =
    goes_two (λ (u v : Tables). Q) Stays (λ (u v : Tables). Q) (λ u v w q e. q) k m n (later_then k l m first second) third x t y (goes_two Stays (λ (u v : Tables). Q) (λ (u v : Tables). Q) (λ u v w e q. q) k l m first second x b t begins holds) ends

-- ---- formulas that act

-- that of a trigger
pub trigger_may : (a : App) (o : Option ℕ) (k : ℕ) (c : CellInfo) → o ≡ Some k → slice_get a.cells k ≡ Some c → (x : Source) → MayWrite c.core x → CellMayWrite a o x
trigger_may a o k c is there x h = (k, c, is, there, h)

-- ---- a request

-- what is given or chosen, and then what acts
pub only_effect : (lost : Type 0) (a : App) (given : Option Source) (trigger : Trigger) (us vs ws : List Source) (x y : Option Tables) → us ≡ [] → vs ≡ us ++ option_to_list given → take (length vs) ws ≡ vs
    → MayFallSilent lost (λ (t u : Tables). AllSources (RequestMayWrite a trigger) (drop (length vs) ws)) x y → MayFallSilent lost (λ (t u : Tables). AllSources (EffectMayWrite a (option_to_list given) trigger) ws) x y
only_effect lost a given trigger us vs ws x y none noted front h =
    goes_as lost (λ (t u : Tables). AllSources (RequestMayWrite a trigger) (drop (length vs) ws)) (λ (t u : Tables). AllSources (EffectMayWrite a (option_to_list given) trigger) ws)
    (λ t u all.
    let P : Source → Type 0 = EffectMayWrite a (option_to_list given) trigger in
    subst (AllSources P) (sym (front_then vs ws front))
    (all_then P vs (drop (length vs) ws) (λ s among. inl (subst (IsAmong s) (noted ∙ ap (λ (l : List Source). l ++ option_to_list given) none) among)) (λ s among. inr (all s among)))) x y h

-- ---- events

-- the control of an event's target has the name that it gives
target_named : (n : Names) (s : SessionState) (values : ℕ → Data) (e : Event) (t : Target) → event_target n s values e ≡ Ok t → control_number e.control n ≡ Some t.control
target_named n s values e t h = by (control_number e.control n) h
  where
    same_control : (k : ℕ) (c : ControlName) (o : Option ℕ) → with_item n values k e.item o ≡ Ok t → k ≡ t.control
    same_control k c o q = by_item e.item o q
      where
        by_item : (p : Option _) (o : Option ℕ) → with_item n values k p o ≡ Ok t → k ≡ t.control
        by_item None None q = let same : record { control = k; item = None } ≡ t = cc in ap (λ (z : Target). z.control) same
        by_item (Some p) (Some g) q = let row = row_ok k g p _ t q in ap (λ (z : Target). z.control) row.2
        by_item None (Some g) q = absurd cc
        by_item (Some p) None q = absurd cc

    at : (k : ℕ) (o : Option ControlName) → event_at n s values e k o ≡ Ok t → k ≡ t.control
    at k None q = absurd cc
    at k (Some c) q =
        let rest = with_item n values k e.item (event_gallery k c) in
        let a = or_ok Target (has_event e.event c.kind) 16 (or_refused (is_shown_or_in_shown_gallery n s values k c) 17 rest) t q in
        let b = or_ok Target (is_shown_or_in_shown_gallery n s values k c) 17 rest t a.1 in
        same_control k c (event_gallery k c) b.1

    by : (o : Option ℕ) → event_named n s values e o ≡ Ok t → o ≡ Some t.control
    by None q = absurd cc
    by (Some k) q = ap Some (at k (slice_get n.controls k) q)

-- what is chosen is of the gallery around it
chosen_is : (n : Names) (values : ℕ → Data) (gallery : Option ℕ) (o : Option Item) (x : Source) → IfSome o (IsItemRow n values gallery) → IsAmong x (item_chosen o) → IsChosenOf gallery x
chosen_is n values gallery None x own among = absurd among
chosen_is n values gallery (Some i) x own (inl same) = (i.gallery, own.gallery_is, sym same)
chosen_is n values gallery (Some i) x own (inr none) = absurd none

-- what was let through passed the checks before
judged_ok : (p : Present) (values : ℕ → Data) (r v : Result Target Refusal) (t : Target) → IsVerdict p values r v → v ≡ Ok t → r ≡ Ok t
judged_ok p values (Err f) v t h is = absurd (let no : Err f ≡ Ok t = sym h ∙ is in cc)
judged_ok p values (Ok q) v t (b, shown, h) is = (or_ok Target b 17 (Ok q) t (sym h ∙ is)).1

-- an event that was let through may write no more than an event may
pub event_may : (p : Present) (a : App) (s : SessionState) (values : ℕ → Data) (e : Event) (v : Result Target Refusal) (x : Source) → IsVerdict p values (event_target a.names s values e) v → TargetMayWrite a v x → EventMayWrite a e x
event_may p a s values e (Err r) x judged may = absurd may
event_may p a s values e (Ok t) x judged may =
    let passed = judged_ok p values (event_target a.names s values e) (Ok t) t judged refl in
    let target = target_is a.names s values e t passed in (
      t.control,
      target.control,
      target_named a.names s values e t passed,
      target.there,
      elim may [ inl among ↦ inl (chosen_is a.names values (event_gallery t.control target.control) t.item x target.item among) | inr acts ↦ inr acts ],
    )

-- an event that was let through
pub only_target : (lost : Type 0) (a : App) (v : Result Target Refusal) (t : Target) (given : List Source) (ws : List Source) (x y : Option Tables) → v ≡ Ok t → given ≡ item_chosen t.item
    → MayFallSilent lost (λ (u w : Tables). AllSources (EffectMayWrite a given (OnSelect t.control)) ws) x y → MayFallSilent lost (λ (u w : Tables). AllSources (TargetMayWrite a v) ws) x y
only_target lost a v t given ws x y is noted h =
    subst (λ (r : Result Target Refusal). MayFallSilent lost (λ (u w : Tables). AllSources (TargetMayWrite a r) ws) x y) (sym is)
    (subst (λ (l : List Source). MayFallSilent lost (λ (u w : Tables). AllSources (EffectMayWrite a l (OnSelect t.control)) ws) x y) noted h)

-- ---- inputs

-- the control of an input has the name that it gives
given_named : (n : Names) (s : SessionState) (values : ℕ → Data) (i : Input) (g : InputValue) → input_target n s values i ≡ Ok g → control_number i.control n ≡ Some g.0
given_named n s values i g h = by (control_number i.control n) h
  where
    at : (k : ℕ) (o : Option ControlName) → input_at n s values i k o ≡ Ok g → k ≡ g.0
    at k None q = absurd cc
    at k (Some c) q =
        let by_value = input_by c.kind (least_of n values k) (greatest_of n values k) i.value in
        let a = or_ok InputValue (takes_input c) 16 (or_refused (is_shown_or_in_shown_gallery n s values k c) 17 (value_given_to k by_value)) g q in
        let b = or_ok InputValue (is_shown_or_in_shown_gallery n s values k c) 17 (value_given_to k by_value) g a.1 in
        sym (given_ok k by_value g b.1).0

    by : (o : Option ℕ) → input_named n s values i o ≡ Ok g → o ≡ Some g.0
    by None q = absurd cc
    by (Some k) q = ap Some (at k (slice_get n.controls k) q)

acts_as : (a : App) (kind : Control) (k : ℕ) (checked : Bool) (x : Source) → RequestMayWrite a (trigger_of kind k checked) x → ControlMayWrite a k x
acts_as a control.Label k checked x h = inr (inl h)
acts_as a control.Button k checked x h = inr (inl h)
acts_as a control.Gallery k checked x h = inr (inl h)
acts_as a control.TextInput k checked x h = inr (inl h)
acts_as a control.Slider k checked x h = inr (inl h)
acts_as a control.DatePicker k checked x h = inr (inl h)
acts_as a control.Checkbox k true x h = inr (inr (inl h))
acts_as a control.Checkbox k false x h = inr (inr (inr h))

acts_at : (a : App) (o : Option ControlName) (k : ℕ) (checked : Bool) (x : Source) → RequestMayWrite a (trigger_at o k checked) x → ControlMayWrite a k x
acts_at a (Some c) k checked x h = acts_as a c.kind k checked x h
acts_at a None k checked x h = inr (inl h)

effect_of : (a : App) (s : SessionState) (values : ℕ → Data) (k : ℕ) (x : Source) → EffectMayWrite a (source.Input k ∷ []) (input_trigger a.names s values k) x → ControlMayWrite a k x
effect_of a s values k x (inl (inl e)) = inl (sym e)
effect_of a s values k x (inl (inr none)) = absurd none
effect_of a s values k x (inr acts) = acts_at a (slice_get a.names.controls k) k (is_true (input_of a.names s values k)) x acts

-- an input that was let through
pub only_given : (lost : Type 0) (a : App) (s : SessionState) (values : ℕ → Data) (v : Result InputValue Refusal) (g : InputValue) (trigger : Trigger) (ws : List Source) (x y : Option Tables) → v ≡ Ok g → trigger ≡ input_trigger a.names s values g.0
    → MayFallSilent lost (λ (t u : Tables). AllSources (EffectMayWrite a (source.Input g.0 ∷ []) trigger) ws) x y → MayFallSilent lost (λ (t u : Tables). AllSources (GivenMayWrite a v) ws) x y
only_given lost a s values v g trigger ws x y is acts h =
    subst (λ (r : Result InputValue Refusal). MayFallSilent lost (λ (t u : Tables). AllSources (GivenMayWrite a r) ws) x y) (sym is)
    (only_more lost (EffectMayWrite a (source.Input g.0 ∷ []) (input_trigger a.names s values g.0)) (ControlMayWrite a g.0) ws x y (effect_of a s values g.0)
    (subst (λ (z : Trigger). MayFallSilent lost (λ (t u : Tables). AllSources (EffectMayWrite a (source.Input g.0 ∷ []) z) ws) x y) acts h))

-- it may write no more than an input may
pub input_may : (a : App) (s : SessionState) (values : ℕ → Data) (i : Input) (v : Result InputValue Refusal) (x : Source) → v ≡ input_target a.names s values i → GivenMayWrite a v x → InputMayWrite a i x
input_may a s values i (Err r) x is may = absurd may
input_may a s values i (Ok g) x is may = (g.0, given_named a.names s values i g (sym is), may)
