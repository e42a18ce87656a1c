-- What is given or chosen, and what a cache is told of it.
use Rattle.std.proofs.Common.{◌≡◌, ℕ, ◌<◌, List, [], ◌∷◌, length, Option, Some, None, refl, sym, subst, ap, ◌∙◌, inl, inr}
use Rattle.std.specs.Option.{option_to_list}
use Rattle.std.proofs.lemmas.Option.{slice_get_within}
use Rattle.std.specs.List.{slice_get}
use Rattle.std.specs.Prelude.{IfSome, option_and_then, unwrap_or}
use Rattle.fx_types.specs.Types.{Shape}
use Rattle.fx_types.specs.Values.{Data, blank}
use Rattle.fx_core.specs.Controls.{input_type}
use Rattle.fx_core.specs.Reads.{IsAmong}
use Rattle.fx_core.specs.SourceTypes.{sources}
use Rattle.fx_core.specs.declared.names.ControlName.{ControlName}
use Rattle.fx_core.specs.declared.names.Names.{Names}
use Rattle.fx_core.specs.declared.sources.Source.{Source}
use Rattle.fx_core.specs.declared.sources.Source.TheVariants as source
use Rattle.recalc.specs.app_cells.declared.app.App.{App}
use Rattle.recalc.specs.app_semantics.Sound.{IsSoundApp}
use Rattle.recalc.specs.Kept.{IsSourceOf, CacheState}
use Rattle.row_keeper.specs.Tables.{Tables}
use Rattle.session_state.specs.Changes.{FitsSource}
use Rattle.session_state.specs.Sessions.{SessionState, stored_value}
use Rattle.session_state.specs.declared.change.Change.TheVariants.{Choose}
use Rattle.session_requests.specs.Acting.{item_chosen, with_input, with_item_chosen, with_target}
use Rattle.session_requests.specs.Caching.{SameSessionExcept, AreSources, IsCached, IsTouchedIf}
use Rattle.session_requests.specs.Targets.{InputValue}
use Rattle.session_requests.specs.declared.target.Item.{Item}
use Rattle.session_requests.specs.declared.target.Target.{Target}
use Rattle.session_requests.proofs.Caches.{apart, made_but, no_change, set_apart}
use Rattle.session_requests.proofs.Undone.{cached_pending, pending_touched, touched_if}

-- what is given changes nothing else
pub input_but : (n : Names) (s : SessionState) (g : InputValue) → SameSessionExcept n (source.Input g.0 ∷ []) s (with_input g s)
input_but n s g = record { held = λ x t e far. by x far; chosen = λ j far. refl }
  where
    by : (x : Source) → (IsAmong x (source.Input g.0 ∷ []) → ⊥) → stored_value (with_input g s) x ≡ stored_value s x
    by (source.Input j) far = ap (λ (o : Option Data). unwrap_or o blank) (set_apart s.inputs g.0 j g.1 None (apart source.Input j g.0 far))
    by (source.Cell j) far = refl
    by (source.Global j) far = refl
    by (source.Context j) far = refl
    by (source.Gathered j) far = refl
    by (source.Chosen j) far = refl
    by (source.Table j) far = refl
    by source.Today far = refl

one_source : (n : Names) (y : Source) → IsSourceOf n y → AreSources n (y ∷ [])
one_source n y h x (inl e) = subst (λ (z : Source). IsSourceOf n z) e h
one_source n y h x (inr none) = absurd none

-- what takes input is a control
input_there : (n : Names) (k : ℕ) (t : Shape) → sources n (source.Input k) ≡ Some t → k < length n.controls
input_there n k t e = by (slice_get n.controls k) refl e
  where
    by : (o : Option ControlName) → slice_get n.controls k ≡ o → option_and_then (λ (c : ControlName). input_type c.kind) o ≡ Some t → k < length n.controls
    by None there e = absurd cc
    by (Some c) there e = slice_get_within n.controls k c there

pub input_source : (n : Names) (k : ℕ) (d : Data) → FitsSource n (source.Input k) d → AreSources n (source.Input k ∷ [])
input_source n k d f = one_source n (source.Input k) (input_there n k f.0 f.1)

-- nor does what is chosen
item_but : (n : Names) (s : SessionState) (o : Option Item) → IfSome o (λ (i : Item). i.gallery < length n.controls) → SameSessionExcept n (item_chosen o) s (with_item_chosen o s)
item_but n s None h = no_change n [] s
item_but n s (Some i) h = made_but n (Choose i.gallery i.at i.id) s h

pub target_but : (n : Names) (s r : SessionState) (t : Target) (ws : List Source) → IfSome t.item (λ (i : Item). i.gallery < length n.controls) → ws ≡ item_chosen t.item → r ≡ with_target t s → SameSessionExcept n ws s r
target_but n s r t ws h e d =
    subst (λ (z : SessionState). SameSessionExcept n ws s z) (sym d) (subst (λ (l : List Source). SameSessionExcept n l s (with_target t s)) (sym e) (item_but n s t.item h))

item_source : (n : Names) (o : Option Item) → IfSome o (λ (i : Item). i.gallery < length n.controls) → AreSources n (item_chosen o)
item_source n None h x l = absurd l
item_source n (Some i) h x l = one_source n (source.Chosen i.gallery) h x l

pub target_source : (n : Names) (t : Target) (ws : List Source) → IfSome t.item (λ (i : Item). i.gallery < length n.controls) → ws ≡ item_chosen t.item → AreSources n ws
target_source n t ws h e = subst (AreSources n) (sym e) (item_source n t.item h)

-- and once the cache is told of it, that stands of the session in which it is
pub given_told : (a : App) (o : Option Source) (s r : SessionState) (told : Option Tables) (m : ℕ) (old new : CacheState) → IsSoundApp a → AreSources a.names (option_to_list o) → SameSessionExcept a.names (option_to_list o) s r → IsTouchedIf a o old new →
    IsCached a s told m old → IsCached a r told m new
given_told a o s r told m old new sound own but touched h =
    pending_touched a (option_to_list o) r told m old new (touched_if a o old new own touched) (cached_pending a (option_to_list o) s r told m old sound but h)
