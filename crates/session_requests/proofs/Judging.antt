-- What the checks of inputs let through fits.
use Rattle.std.proofs.Common.{◌≡◌, ℕ, Bool, true, false, Option, Some, None, Result, Ok, Err, refl, ap, sym, ◌∙◌, subst, if◌then◌else◌}
use Rattle.std.specs.Prelude.{ℤ, not, is_some, option_and_then, slice_get, unwrap_or}
use Rattle.std.proofs.lemmas.Bool.{and_parts}
use Rattle.fx_types.specs.Types.{Shape, texts, numbers, booleans, dates}
use Rattle.fx_types.specs.Values.{Data, blank, number, text, boolean, date, rec, tab, fault}
use Rattle.fx_types.specs.declared.controls.Control.{Control}
use Rattle.fx_types.specs.declared.controls.Control.TheVariants as control
use Rattle.fx_core.specs.Controls.{input_type}
use Rattle.fx_core.specs.SourceTypes.{sources}
use Rattle.fx_core.specs.declared.names.ControlName.{ControlName}
use Rattle.fx_core.specs.declared.names.Names.{Names}
use Rattle.fx_core.specs.declared.sources.Source.TheVariants as source
use Rattle.fx_value.specs.Fits.{fits_in}
use Rattle.numbered_requests.specs.Replies.{plain}
use Rattle.session_state.specs.Changes.{FitsSource}
use Rattle.session_state.specs.Sessions.{SessionState}
use Rattle.view_text.specs.declared.refused.Refusal.{Refusal}
use Rattle.session_requests.specs.Shown.{control_number, is_shown_or_in_shown_gallery}
use Rattle.session_requests.specs.Targets.{InputValue, value_given_to, greatest_of, input_at, input_by, input_named, input_target, is_blank, least_of, or_refused, control_takes, takes_input}
use Rattle.session_requests.specs.declared.input.Input.{Input}

-- ---- a value that a control takes fits its type

text_fits : (a b : Option ℤ) (d : Data) → control_takes control.TextInput a b d ≡ true → fits_in d texts ≡ true
text_fits a b blank h = refl
text_fits a b (fault k cs) h = refl
text_fits a b (text cs) h = refl
text_fits a b (number z) h = absurd cc
text_fits a b (boolean x) h = absurd cc
text_fits a b (date z) h = absurd cc
text_fits a b (rec fs) h = absurd cc
text_fits a b (tab rs) h = absurd cc

number_fits : (a b : Option ℤ) (d : Data) → control_takes control.Slider a b d ≡ true → fits_in d numbers ≡ true
number_fits a b blank h = refl
number_fits a b (fault k cs) h = refl
number_fits a b (number z) h = refl
number_fits a b (text cs) h = absurd cc
number_fits a b (boolean x) h = absurd cc
number_fits a b (date z) h = absurd cc
number_fits a b (rec fs) h = absurd cc
number_fits a b (tab rs) h = absurd cc

truth_fits : (a b : Option ℤ) (d : Data) → control_takes control.Checkbox a b d ≡ true → fits_in d booleans ≡ true
truth_fits a b blank h = refl
truth_fits a b (fault k cs) h = refl
truth_fits a b (boolean x) h = refl
truth_fits a b (number z) h = absurd cc
truth_fits a b (text cs) h = absurd cc
truth_fits a b (date z) h = absurd cc
truth_fits a b (rec fs) h = absurd cc
truth_fits a b (tab rs) h = absurd cc

date_fits : (a b : Option ℤ) (d : Data) → control_takes control.DatePicker a b d ≡ true → fits_in d dates ≡ true
date_fits a b blank h = refl
date_fits a b (fault k cs) h = refl
date_fits a b (date z) h = refl
date_fits a b (number z) h = absurd cc
date_fits a b (text cs) h = absurd cc
date_fits a b (boolean x) h = absurd cc
date_fits a b (rec fs) h = absurd cc
date_fits a b (tab rs) h = absurd cc

typed : (d : Data) (u t : Shape) → Some u ≡ Some t → fits_in d u ≡ true → fits_in d t ≡ true
typed d u t e h = let same : u ≡ t = cc in let P : Shape → Type 0 = λ x. fits_in d x ≡ true in subst P same h

takes_fits : (kind : Control) (a b : Option ℤ) (d : Data) (t : Shape) → control_takes kind a b d ≡ true → input_type kind ≡ Some t → fits_in d t ≡ true
takes_fits control.Label a b d t h e = absurd cc
takes_fits control.Button a b d t h e = absurd cc
takes_fits control.Gallery a b d t h e = absurd cc
takes_fits control.TextInput a b d t h e = typed d texts t e (text_fits a b d h)
takes_fits control.Slider a b d t h e = typed d numbers t e (number_fits a b d h)
takes_fits control.Checkbox a b d t h e = typed d booleans t e (truth_fits a b d h)
takes_fits control.DatePicker a b d t h e = typed d dates t e (date_fits a b d h)

input_fits : (kind : Control) (a b : Option ℤ) (given v : Option Data) (t : Shape) → input_by kind a b given ≡ Ok v → input_type kind ≡ Some t → fits_in (unwrap_or v blank) t ≡ true
input_fits kind a b None v t h e = absurd cc
input_fits kind a b (Some d) v t h e = by (is_blank d) (control_takes kind a b d) refl h
  where
    P : Option Data → Type 0
    P = λ o. fits_in (unwrap_or o blank) t ≡ true

    by : (x y : Bool) → control_takes kind a b d ≡ y → (if x then Ok None else (if y then Ok (Some d) else Err (plain 20))) ≡ Ok v → P v
    by true y f g = let none : None ≡ v = cc in subst P none refl
    by false true f g = let some : Some d ≡ v = cc in subst P some (takes_fits kind a b d t f e)
    by false false f g = absurd cc

-- ---- what is let through

pub or_ok : (T : Type 0) (b : Bool) (code : ℕ) (r : Result T Refusal) (it : T) → or_refused b code r ≡ Ok it → (b ≡ true) × (r ≡ Ok it)
or_ok T true code r it e = (refl, e)
or_ok T false code r it e = absurd cc

pub given_ok : (k : ℕ) (r : Result (Option Data) Refusal) (g : InputValue) → value_given_to k r ≡ Ok g → (g.0 ≡ k) × (r ≡ Ok g.1)
given_ok k (Ok v) g e = let is : (k, v) ≡ g = cc in (ap (λ (x : InputValue). x.0) (sym is), ap (λ (x : InputValue). Ok x.1) is)
given_ok k (Err r) g e = absurd cc

has_type : (o : Option Shape) → is_some o ≡ true → (t : Shape) × (o ≡ Some t)
has_type None e = absurd cc
has_type (Some t) e = (t, refl)

at_fits : (n : Names) (s : SessionState) (values : ℕ → Data) (i : Input) (k : ℕ) (o : Option ControlName) (g : InputValue) → slice_get n.controls k ≡ o → input_at n s values i k o ≡ Ok g → FitsSource n (source.Input g.0) (unwrap_or g.1 blank)
at_fits n s values i k None g there e = absurd cc
at_fits n s values i k (Some c) g there e =
    let rest = value_given_to k (input_by c.kind (least_of n values k) (greatest_of n values k) i.value) in
    let a = or_ok InputValue (takes_input c) 16 (or_refused (is_shown_or_in_shown_gallery n s values k c) 17 rest) g e in
    let b = or_ok InputValue (is_shown_or_in_shown_gallery n s values k c) 17 rest g a.1 in
    let d = given_ok k (input_by c.kind (least_of n values k) (greatest_of n values k) i.value) g b.1 in
    let t = has_type (input_type c.kind) (and_parts (is_some (input_type c.kind)) (not (is_some c.gallery)) a.0).0 in
    (t.0, ap (λ (j : ℕ). sources n (source.Input j)) d.0 ∙ ap (option_and_then (λ (c : ControlName). input_type c.kind)) there ∙ t.1, input_fits c.kind (least_of n values k) (greatest_of n values k) i.value g.1 t.0 d.1 t.1)

named_fits : (n : Names) (s : SessionState) (values : ℕ → Data) (i : Input) (o : Option ℕ) (g : InputValue) → input_named n s values i o ≡ Ok g → FitsSource n (source.Input g.0) (unwrap_or g.1 blank)
named_fits n s values i None g e = absurd cc
named_fits n s values i (Some k) g e = at_fits n s values i k (slice_get n.controls k) g refl e

-- THE value that an input gives fits its control
pub given_fits : (n : Names) (s : SessionState) (values : ℕ → Data) (i : Input) (g : InputValue) → input_target n s values i ≡ Ok g → FitsSource n (source.Input g.0) (unwrap_or g.1 blank)
given_fits n s values i g e = named_fits n s values i (control_number i.control n) g e

-- ---- who takes it

-- a control, which stands in no gallery
pub record IsTaker (n : Names) (k : ℕ) : Type 0 where
  pub control : ControlName
  pub there : slice_get n.controls k ≡ Some control
  pub alone : control.gallery ≡ None

is_alone : (o : Option ℕ) → not (is_some o) ≡ true → o ≡ None
is_alone None e = refl
is_alone (Some g) e = absurd cc

at_taker : (n : Names) (s : SessionState) (values : ℕ → Data) (i : Input) (k : ℕ) (o : Option ControlName) (g : InputValue) → slice_get n.controls k ≡ o → input_at n s values i k o ≡ Ok g → IsTaker n g.0
at_taker n s values i k None g there e = absurd cc
at_taker n s values i k (Some c) g there e =
    let rest = value_given_to k (input_by c.kind (least_of n values k) (greatest_of n values k) i.value) in
    let a = or_ok InputValue (takes_input c) 16 (or_refused (is_shown_or_in_shown_gallery n s values k c) 17 rest) g e in
    let b = or_ok InputValue (is_shown_or_in_shown_gallery n s values k c) 17 rest g a.1 in
    let d = given_ok k (input_by c.kind (least_of n values k) (greatest_of n values k) i.value) g b.1 in
    subst (IsTaker n) (sym d.0) (record { control = c; there = there; alone = is_alone c.gallery (and_parts (is_some (input_type c.kind)) (not (is_some c.gallery)) a.0).1 })

named_taker : (n : Names) (s : SessionState) (values : ℕ → Data) (i : Input) (o : Option ℕ) (g : InputValue) → input_named n s values i o ≡ Ok g → IsTaker n g.0
named_taker n s values i None g e = absurd cc
named_taker n s values i (Some k) g e = at_taker n s values i k (slice_get n.controls k) g refl e

-- THE control that an input is of stands in no gallery
pub taker_is : (n : Names) (s : SessionState) (values : ℕ → Data) (i : Input) (g : InputValue) → input_target n s values i ≡ Ok g → IsTaker n g.0
taker_is n s values i g e = named_taker n s values i (control_number i.control n) g e
