-- A formula in which something acts, by its head and its parts.
use Rattle.std.proofs.Common.{◌≡◌, List, Result, true}
use Rattle.std.specs.Prelude.{IfOk, IsErrOf, OnErr}
use Rattle.fx_base.specs.Faults.{Rose}
use Rattle.fx_base.specs.Silence.{MayFallSilent, SilenceCause}
use Rattle.fx_types.specs.declared.values.Value.{Value}
use Rattle.fx_types.specs.Types.{Shape}
use Rattle.fx_types.specs.ValueView.{view}
use Rattle.fx_value.specs.Fits.{fits_in}
use Rattle.fx_env.specs.declared.environment.Stop.{Stop}
use Rattle.fx_env.specs.declared.environment.Stop.TheVariants.{Keeper}
use Rattle.fx_env.specs.Scopes.{ScopeValues}
use Rattle.fx_core.specs.Term.{Term, of, all, Top}
use Rattle.fx_typing.specs.Acts.{acts}
use Rattle.fx_deeds.specs.WorldSteps.{Attempt, Stage}
use Rattle.fx_deeds.specs.State.{Giving, ground}
use Rattle.fx_behave.proofs.Allowing.{attempt_same}
use Rattle.fx_behave.proofs.Cutting.{cut_as}
use Rattle.fx_behave.proofs.Heads.{found, parts_are}
use Rattle.fx_behave.proofs.Sequences.{performed_as}
use Rattle.fx_behave.specs.Actable.{IsActable}
use Rattle.fx_behave.specs.CutOff.{IsActingCut, IsCutOff, parts}
use Rattle.fx_behave.specs.Perform.{PerformsNode, Performs, performings}
use Rattle.fx_behave.specs.Writable.{MayWrite}

module _ {A : Type 0} (gives : Giving A) (a b : Stage A) (h k : ScopeValues) (r : Result Value Stop) where
  -- what is said of a formula, by its value and what it leaves
  abbrev pub Formulas : Term → Type 0
  Formulas w = record {
    attempt : Attempt a b (MayWrite w);
    scope : k ≡ h;
    keeper : IsErrOf r Keeper → Rose a.marks.faults b.marks.faults;
    done : IfOk r (λ v. MayFallSilent (SilenceCause a.marks b.marks) (λ s t. Performs (ground gives a.fixed) w h (view v) s t) a.state b.state);
    cut : OnErr r (MayFallSilent (SilenceCause a.marks b.marks) (IsCutOff (ground gives a.fixed) w h) a.state b.state);
    fits : (u : Shape) → IsActable a.fixed.types h w u → IfOk r (λ v. fits_in (view v) u ≡ true);
  }

  -- the same of a head and its parts
  abbrev pub Actings : Top → List Term → Type 0
  Actings head ts = record {
    attempt : Attempt a b (MayWrite (of head (all ts)));
    scope : k ≡ h;
    keeper : IsErrOf r Keeper → Rose a.marks.faults b.marks.faults;
    done : IfOk r (λ v. MayFallSilent (SilenceCause a.marks b.marks) (λ s t. PerformsNode (ground gives a.fixed) head (performings (ground gives a.fixed) (all ts)) h s (view v) t) a.state b.state);
    cut : OnErr r (MayFallSilent (SilenceCause a.marks b.marks) (IsActingCut (ground gives a.fixed) head (parts (ground gives a.fixed) (all ts)) h) a.state b.state);
    fits : (u : Shape) → IsActable a.fixed.types h (of head (all ts)) u → IfOk r (λ v. fits_in (view v) u ≡ true);
  }

  pub formula_is : (head : Top) (ts xs : List Term) (w : Term) → of head (all ts) ≡ w → xs ≡ ts → acts w ≡ true → Actings head xs → Formulas w
  formula_is head ts xs w e p q d = record {
    attempt = attempt_same a b (of head (all xs)) w (parts_are head ts xs w e p) d.attempt;
    scope = d.scope;
    keeper = d.keeper;
    done = performed_as (SilenceCause a.marks b.marks) (ground gives a.fixed) head ts xs w h r a.state b.state e p q d.done;
    cut = cut_as (SilenceCause a.marks b.marks) (ground gives a.fixed) head ts xs w h r a.state b.state e p q d.cut;
    fits = λ u c. d.fits u (found a.fixed.types h (of head (all xs)) w (parts_are head ts xs w e p) u c);
  }
