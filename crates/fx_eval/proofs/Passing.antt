-- What an evaluation leaves as it was, and what is ready there still.
use Rattle.std.proofs.Common.{◌≡◌, Option, Some, None, refl, sym, subst, ◌∙◌, arith}
use Rattle.fx_base.proofs.Silences.{goes_two, later_then}
use Rattle.fx_base.specs.Silence.{MayFallSilent, SilenceCause}
use Rattle.fx_base.specs.Telling.{Stays}
use Rattle.fx_types.specs.Types.{Shape}
use Rattle.fx_types.specs.Values.{Data}
use Rattle.fx_eval.specs.EvalSteps.{Moment, Went}
use Rattle.fx_env.specs.Scopes.{Fixed, ScopeValues, around}
use Rattle.fx_env.specs.Telling.{IsHeard, EnvState, values_told}
use Rattle.fx_semantics.specs.Around.{Around, Meaning}
use Rattle.fx_core.specs.declared.sources.Source.{Source}

-- one evaluation after another
pub went_on : {B : Type 0} (a b c : Moment B) → Went a b → Went b c → Went a c
went_on a b c p q = record {
  fixed = q.fixed ∙ p.fixed;
  scope = q.scope ∙ p.scope;
  told = goes_two Stays Stays Stays (λ x y z e f. f ∙ e) a.marks b.marks c.marks p.later q.later a.told b.told c.told p.told q.told;
  later = later_then a.marks b.marks c.marks p.later q.later;
  ticks = let s = p.ticks in let t = q.ticks in omega arith;
  visited = let v = p.visited in let w = q.visited in omega arith;
}

-- what holds of the types and of what the scope holds
pub as_before : {B : Type 0} (P : (Source → Option Shape) → ScopeValues → Type 0) (a b : Moment B) → Went a b → P a.fixed.types a.scope → P b.fixed.types b.scope
as_before P a b w h = subst (λ (s : ScopeValues). P b.fixed.types s) (sym w.scope) (subst (λ (f : Fixed). P f.types a.scope) (sym w.fixed) h)

-- what a meaning gives there, by the same values of sources
pub meant_before : {B : Type 0} (told : Option (Source → Data)) (P : Meaning) (f : ScopeValues → ScopeValues) (a b : Moment B) → Went a b → (d : Data) →
    P (around b.fixed.types told (f b.scope)) d → P (around a.fixed.types told (f a.scope)) d
meant_before told P f a b w d h =
    subst (λ (s : ScopeValues). P (around a.fixed.types told (f s)) d) w.scope
    (subst (λ (x : Fixed). P (around x.types told (f b.scope)) d) w.fixed h)

-- what holds there
pub held_before : {B : Type 0} (told : Option (Source → Data)) (P : Around → Type 0) (a b : Moment B) → Went a b →
    P (around b.fixed.types told b.scope) → P (around a.fixed.types told a.scope)
held_before told P a b w h =
    subst (λ (s : ScopeValues). P (around a.fixed.types told s)) w.scope (subst (λ (x : Fixed). P (around x.types told b.scope)) w.fixed h)

-- ---- what is heard

pub heard_back : {B : Type 0} (lost : Type 0) (x y : Option (EnvState B)) (f : Option (Source → Data)) → MayFallSilent lost Stays x y → IsHeard (values_told y) f → IsHeard (values_told x) f
heard_back lost x y None k h = tt
heard_back lost None y (Some g) k h = subst (λ z. values_told z ≡ Some g) k h
heard_back lost (Some a) None (Some g) k h = absurd cc
heard_back lost (Some a) (Some b) (Some g) k h = subst (λ z. Some z.values ≡ Some g) k h

-- what is heard later was heard before
pub heard_before : {B : Type 0} (a b : Moment B) → Went a b → (f : Option (Source → Data)) → IsHeard (values_told b.told) f → IsHeard (values_told a.told) f
heard_before a b w f h = heard_back (SilenceCause a.marks b.marks) a.told b.told f w.told h

-- what is told is heard
pub heard_told : {A : Type 0} (x : Option A) → IsHeard x x
heard_told None = tt
heard_told (Some a) = refl
