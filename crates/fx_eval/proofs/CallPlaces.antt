-- The values of a call's parts fit its places.
use Rattle.std.proofs.Common.{◌≡◌, ◌≢◌, ℕ, zero, suc, ◌+◌, ◌<◌, List, [], ◌∷◌, ◌++◌, length, true, Option, refl, ap, sym, subst, arith}
use Rattle.fx_types.specs.Types.{Shape}
use Rattle.fx_types.specs.Values.{Data}
use Rattle.fx_eval.proofs.CallHeads.{call_plain, of_values}
use Rattle.fx_eval.proofs.Ready.{AreCalm, Lawfully, calm_parts, calm_rest, part_ready, ready_fits}
use Rattle.fx_eval.proofs.Standings.{parts_fine}
use Rattle.fx_eval.specs.Parts.{AreFine}
use Rattle.fx_env.specs.Scopes.{ScopeValues, Suits, IsTypedHere, CanEvaluate, around}
use Rattle.fx_semantics.specs.Around.{Around, AreValues, Meaning}
use Rattle.fx_semantics.specs.Fresh.{IsCalled, OfAll, meanings}
use Rattle.fx_semantics.specs.Sound.{AreFit, AreLawfulTypings, ValuesFit}
use Rattle.fx_core.specs.declared.functions.Fun.{Fun}
use Rattle.fx_core.specs.declared.functions.Fun.TheVariants as fun
use Rattle.fx_core.specs.declared.rows.Row.{Row}
use Rattle.fx_core.specs.declared.rows.Takes.{Takes}
use Rattle.fx_core.specs.declared.rows.Takes.TheVariants as takes
use Rattle.fx_core.specs.declared.sources.Source.{Source}
use Rattle.fx_core.specs.Rows.{row_of, takes_at}
use Rattle.fx_scalar.specs.Arguments.{argument_at}
use Rattle.fx_scalar.specs.Fitting.{FittingCanApply, fits_place}
use Rattle.fx_scalar.specs.ScalarFunctions.{CanApply, IsAnswer}
use Rattle.fx_core.specs.Term.{Term, of, all, Top, call}
use Rattle.fx_typing.specs.WellTyped.{Context, AreTyped, AllStand, Stands, PartScope, plain, standing_at, context_for, first_type, parts_count}
use Rattle.fx_value.specs.Fits.{fits_in}

abbrev Types : Type 0
Types = Source → Option Shape

-- parts that are ready at these types
abbrev pub AreReady : Types → ScopeValues → List Term → List Shape → Type 0
AreReady types s [] [] = Unit {0}
AreReady types s (t ∷ ts) (u ∷ us) = IsTypedHere types s t u × AreReady types s ts us
AreReady types s ts us = ⊥

pub parts_ready : (types : Types) (s : ScopeValues) (c : Context) (h : Top) (n : ℕ) → ((m i : ℕ) → standing_at h m i ≡ plain) → Suits types s c →
    (ts : List Term) (done us : List Shape) → (w : AreTyped c h n done (all ts) us) → AreLawfulTypings c h n done (all ts) us w → AreCalm (all ts) →
    AreReady types s ts us
parts_ready types s c h n p f [] done us k l q = subst (AreReady types s []) (sym k) tt
parts_ready types s c h n p f (t ∷ ts) done us k l q =
    let there : Lawfully (context_for (standing_at h n (length done)) c done) t k.0 = (k.3, l.0) in
    subst (AreReady types s (t ∷ ts)) (sym k.2) (
      part_ready types s c t (all ts) k.0 f (subst (λ (z : PartScope). Lawfully (context_for z c done) t k.0) (p n (length done)) there) q,
      parts_ready types s c h n p f ts (done ++ k.0 ∷ []) k.1 k.4 l.1 (calm_rest t (all ts) q),
    )

pub values_fit_types : ValuesFit → (types : Types) (told : Option (Source → Data)) (s : ScopeValues) (ts : List Term) (us : List Shape) (ds : List Data) →
    AreReady types s ts us → AreValues (meanings (all ts)) (around types told s) ds → AreFit ds us
values_fit_types law types told s [] [] [] r v = tt
values_fit_types law types told s [] [] (d ∷ ds) r v = absurd v
values_fit_types law types told s [] (u ∷ us) ds r v = absurd r
values_fit_types law types told s (t ∷ ts) [] ds r v = absurd r
values_fit_types law types told s (t ∷ ts) (u ∷ us) [] r v = absurd v
values_fit_types law types told s (t ∷ ts) (u ∷ us) (d ∷ ds) r v =
    (ready_fits law types told s t u r.0 d v.0, values_fit_types law types told s ts us ds r.1 v.1)

-- what fits the type that stands at a place fits the place
place_fits : (k : Takes) (first common u : Shape) (d : Data) → Stands k first common u → fits_in d u ≡ true → fits_place k d ≡ true
place_fits (takes.Scalar s) first common u d h f = subst (λ (z : Shape). fits_in d z ≡ true) h f
place_fits (takes.Exact s) first common u d h f = subst (λ (z : Shape). fits_in d z ≡ true) h f
place_fits (takes.Formula s) first common u d h f = refl
place_fits takes.Any first common u d h f = refl
place_fits takes.AnyFormula first common u d h f = refl
place_fits takes.ErrorRecord first common u d h f = refl
place_fits takes.Table first common u d h f = refl
place_fits takes.ScalarFormula first common u d h f = refl
place_fits takes.RowFormula first common u d h f = refl
place_fits takes.Choice first common u d h f = refl
place_fits takes.Branch first common u d h f = refl
place_fits takes.Fallback first common u d h f = refl
place_fits takes.Compared first common u d h f = refl
place_fits takes.Match first common u d h f = refl
place_fits takes.Column first common u d h f = refl
place_fits takes.NewColumn first common u d h f = refl

places_fit : (r : Row) (n i : ℕ) (first common : Shape) (us : List Shape) (ds : List Data) → AllStand r n i first common us → AreFit ds us →
    (k j : ℕ) → k < length ds → j ≡ i + k → fits_place (takes_at r n j) (argument_at ds k) ≡ true
places_fit r n i first common [] [] a g k j l e = absurd (omega arith)
places_fit r n i first common [] (d ∷ ds) a g k j l e = absurd g
places_fit r n i first common (u ∷ us) [] a g k j l e = absurd g
places_fit r n i first common (u ∷ us) (d ∷ ds) a g zero j l e =
    let here : i ≡ j = omega arith in
    subst (λ (z : ℕ). fits_place (takes_at r n z) d ≡ true) here (place_fits (takes_at r n i) first common u d a.0 g.0)
places_fit r n i first common (u ∷ us) (d ∷ ds) a g (suc k) j l e =
    places_fit r n (suc i) first common us ds a.1 g.1 k j (omega arith) (omega arith)

fit_many : (ds : List Data) (us : List Shape) → AreFit ds us → length us ≡ length ds
fit_many [] [] g = refl
fit_many [] (u ∷ us) g = absurd g
fit_many (d ∷ ds) [] g = absurd g
fit_many (d ∷ ds) (u ∷ us) g = ap suc (fit_many ds us g.1)

-- a function of values can be applied to the values of the parts of its call
pub call_can : ValuesFit → FittingCanApply → (types : Types) (told : Option (Source → Data)) (s : ScopeValues) (f : Fun) (ts : List Term) (ds : List Data) →
    CanEvaluate types s (of (call f) (all ts)) → AreValues (meanings (all ts)) (around types told s) ds → CanApply f ds
call_can law apply types told s f ts ds r v =
    let h = r.1.typed in
    let rule = h.2.1 in
    let ready = parts_ready types s r.1.context (call f) (parts_count (all ts)) (call_plain f h.2.0) r.1.suits ts [] h.0 h.1 r.1.lawful.1 (calm_parts types s (call f) (all ts) r.0 r.1) in
    let fit = values_fit_types law types told s ts h.0 ds ready v in
    apply f ds (of_values f h.2.0)
    (λ i l. subst (λ (n : ℕ). fits_place (takes_at (row_of f) n i) (argument_at ds i) ≡ true) (fit_many ds h.0 fit)
    (places_fit (row_of f) (length h.0) 0 (first_type h.0) rule.1 h.0 ds rule.2 fit i i l (omega arith)))

-- the parts of a call of values
pub call_fine : (types : Types) (s : ScopeValues) (f : Fun) (ts : List Term) → CanEvaluate types s (of (call f) (all ts)) → AreFine types s ts
call_fine types s f ts r = parts_fine types s (call f) ts (call_plain f r.1.typed.2.0) r

-- what a call is worth that isn't `Coalesce`
pub called_by_values : (f : Fun) (Ps : List Meaning) (a : Around) (v : Data) → f ≢ fun.Coalesce → OfAll Ps a (λ ds. IsAnswer f ds v) → IsCalled f Ps a v
called_by_values fun.Coalesce Ps a v n h = absurd (n refl)
called_by_values f Ps a v n h = h
