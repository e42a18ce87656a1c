-- A deed by what it is, with the values that it takes.
use Rattle.std.proofs.Common.{◌≡◌, ℕ, List, [], ◌∷◌, Result, length, map, true, refl, subst, sym}
use Rattle.std.specs.Prelude.{IfOk, IsErrOf, OnErr}
use Rattle.fx_base.specs.Faults.{Rose}
use Rattle.fx_base.specs.Silence.{MayFallSilent, SilenceCause}
use Rattle.fx_types.specs.declared.values.Value.{Value}
use Rattle.fx_types.specs.Types.{Shape, booleans}
use Rattle.fx_types.specs.ValueView.{view}
use Rattle.fx_value.specs.Fits.{fits_in}
use Rattle.fx_env.specs.declared.environment.Stop.{Stop}
use Rattle.fx_env.specs.declared.environment.Stop.TheVariants.{Keeper}
use Rattle.fx_core.specs.declared.deeds.Deed.{Deed}
use Rattle.fx_core.specs.declared.deeds.Deed.TheVariants as deed
use Rattle.fx_core.specs.declared.deeds.Target.{Target}
use Rattle.fx_deeds.specs.Doable.{AnswersAs, CanDo}
use Rattle.fx_deeds.specs.Done.{IsDeed}
use Rattle.fx_deeds.specs.Fitting.{SourceTypes}
use Rattle.fx_deeds.specs.CutOff.{CutDeed}
use Rattle.fx_deeds.specs.WorldSteps.{Attempt, Stage}
use Rattle.fx_deeds.specs.State.{eval_frame}
use Rattle.fx_deeds.specs.Writable.{DeedMayWrite}

-- ---- one value

pub one_given : (types : SourceTypes) (k : ℕ) (vs : List Value) → CanDo types (deed.Set k) (map view vs) → length vs ≡ 1
one_given types k [] h = absurd h
one_given types k (v ∷ []) h = refl
one_given types k (v ∷ (w ∷ vs)) h = absurd h

pub one_filter : (types : SourceTypes) (p : Target) (vs : List Value) → CanDo types (deed.RemoveIf p) (map view vs) → length vs ≡ 1
one_filter types p [] h = absurd h
one_filter types p (v ∷ []) h = refl
one_filter types p (v ∷ (w ∷ vs)) h = absurd h

pub one_text : (types : SourceTypes) (vs : List Value) → CanDo types deed.Notify (map view vs) → length vs ≡ 1
one_text types [] h = absurd h
one_text types (v ∷ []) h = refl
one_text types (v ∷ (w ∷ vs)) h = absurd h

-- ---- none

pub none_cleared : (types : SourceTypes) (k : ℕ) (vs : List Value) → CanDo types (deed.Clear k) (map view vs) → vs ≡ []
none_cleared types k [] h = refl
none_cleared types k (v ∷ vs) h = absurd h

pub none_shown : (types : SourceTypes) (k : ℕ) (vs : List Value) → CanDo types (deed.Navigate k) (map view vs) → vs ≡ []
none_shown types k [] h = refl
none_shown types k (v ∷ vs) h = absurd h

pub none_reset : (types : SourceTypes) (k : ℕ) (vs : List Value) → CanDo types (deed.Reset k) (map view vs) → vs ≡ []
none_reset types k [] h = refl
none_reset types k (v ∷ vs) h = absurd h

-- ---- a deed by what it is

-- what can be done with a deed and values can be done with what they are
pub can_as : (types : SourceTypes) (d e : Deed) (vs ws : List Value) → d ≡ e → vs ≡ ws → CanDo types d (map view vs) → CanDo types e (map view ws)
can_as types d e vs ws p q h = subst (λ us. CanDo types e (map view us)) q (subst (λ z. CanDo types z (map view vs)) p h)

-- what is said of a deed with these values, by its answer and what it leaves
abbrev pub Deeds : {A : Type 0} → Stage A → Stage A → Result Value Stop → Deed → List Value → Type 0
Deeds a b r d vs = record {
  attempt : Attempt a b (DeedMayWrite d);
  keeper : IsErrOf r Keeper → Rose a.marks.faults b.marks.faults;
  done : IfOk r (λ x. MayFallSilent (SilenceCause a.marks b.marks) (λ s t. IsDeed (eval_frame a.fixed) d (map view vs) s (view x) t) a.state b.state);
  cut : OnErr r (MayFallSilent (SilenceCause a.marks b.marks) (CutDeed (eval_frame a.fixed) d (map view vs)) a.state b.state);
  fits : (u : Shape) → AnswersAs a.fixed.types d u → IfOk r (λ x. fits_in (view x) u ≡ true);
}

-- what is said of what a deed and its values are is said of them
pub deed_is : {A : Type 0} (a b : Stage A) (r : Result Value Stop) (d e : Deed) (vs ws : List Value) → d ≡ e → vs ≡ ws → Deeds a b r e ws → Deeds a b r d vs
deed_is a b r d e vs ws p q h = subst (λ z. Deeds a b r z vs) (sym p) (subst (λ us. Deeds a b r e us) (sym q) h)

-- an answer that is true or an error
pub truth : {E : Type 0} (r : Result Value E) → IfOk r (λ x. fits_in (view x) booleans ≡ true) → (u : Shape) → u ≡ booleans → IfOk r (λ x. fits_in (view x) u ≡ true)
truth r h u e = subst (λ t. IfOk r (λ x. fits_in (view x) t ≡ true)) (sym e) h
