-- What controls show.
use Rattle.std.proofs.Common.{◌≡◌, ℕ, false, Option, Some, None, refl, ap, ◌∙◌}
use Rattle.std.specs.Prelude.{option_and_then}
use Rattle.std.specs.List.{slice_get}
use Rattle.std.proofs.lemmas.Bool.{both_ways}
use Rattle.recalc.specs.app_semantics.Holding.{HoldsFitting}
use Rattle.recalc.specs.app_semantics.Present.{Present}
use Rattle.session_views.specs.Galleries.{is_gallery}
use Rattle.session_views.specs.Views.{IsItemControlShown, ShowsFirstItems, is_in}
use Rattle.fx_types.specs.Types.{Shape}
use Rattle.fx_types.specs.Values.{Data}
use Rattle.fx_types.specs.declared.controls.Control.TheVariants as control
use Rattle.fx_types.specs.declared.controls.Control.{Control}
use Rattle.fx_core.specs.Controls.{input_type}
use Rattle.fx_core.specs.declared.names.ControlName.{ControlName}
use Rattle.fx_core.specs.declared.names.Names.{Names}
use Rattle.fx_core.specs.declared.sources.Source.TheVariants as source
use Rattle.session_state.specs.Sessions.{Holds, SessionState}

-- a session holds what users give to a control that takes input
pub input_held : (n : Names) (s : SessionState) (k : ℕ) (c : ControlName) (t : Shape) → HoldsFitting n s → slice_get n.controls k ≡ Some c → input_type c.kind ≡ Some t → Holds s (source.Input k)
input_held n s k c t holds there takes = holds.sources_held (source.Input k) t tt (ap (λ (o : Option ControlName). option_and_then (λ (d : ControlName). input_type d.kind) o) there ∙ takes)

-- a control outside a gallery's template isn't shown for its items
pub not_in : (p : Present) (values : ℕ → Data) (g : ℕ) (item : Data) (k : ℕ) (c : ControlName) → is_in g c.gallery ≡ false → IsItemControlShown p values g item k c None
not_in p values g item k c out = λ h. absurd (both_ways (is_in g c.gallery) out h)

-- a control that is no gallery has no items
pub no_items : (p : Present) (values : ℕ → Data) (k : ℕ) (c : Control) → is_gallery c ≡ false → ShowsFirstItems p values k c None
no_items p values k control.Gallery e = absurd cc
no_items p values k control.Label e = refl
no_items p values k control.Button e = refl
no_items p values k control.TextInput e = refl
no_items p values k control.Slider e = refl
no_items p values k control.Checkbox e = refl
no_items p values k control.DatePicker e = refl
