-- What is left to do decides of the whole.
use Rattle.std.proofs.Common.{Option, None, Some, refl}
use Rattle.fx_base.proofs.Silences.{goes_two, goes_weaker}
use Rattle.fx_base.specs.Silence.{MayFallSilent, IsLater, SilenceCause, Marks}
use Rattle.fx_types.specs.Values.{Data}
use Rattle.fx_deeds.specs.RemainingRows.{RestDecides}
use Rattle.fx_deeds.specs.State.{WorldState}

abbrev pub Rest : Type 0 → Type 1
Rest A = WorldState A → Data → WorldState A → Type 0

-- before anything is done, all of it is left
pub begins : {A : Type 0} (lost : Type 0) (x : Option (WorldState A)) (W : Rest A) → MayFallSilent lost (RestDecides W W) x x
begins lost None W = refl
begins lost (Some s) W = λ d t h. h

module _ {A : Type 0} (k l m : Marks) (x y z : Option (WorldState A)) where
  pub then_goes : (P Q R : WorldState A → WorldState A → Type 0) → IsLater k l → IsLater l m → ((s n t : WorldState A) → P s n → Q n t → R s t) →
      MayFallSilent (SilenceCause k l) P x y → MayFallSilent (SilenceCause l m) Q y z → MayFallSilent (SilenceCause k m) R x z
  then_goes P Q R before later f = goes_two P Q R f k l m before later x y z

  -- one step more, which ends it
  pub end_on : (R W : Rest A) (P : WorldState A → WorldState A → Type 0) (v : Data) → IsLater k l → IsLater l m → ((n t : WorldState A) → P n t → R n v t) →
      MayFallSilent (SilenceCause k l) (RestDecides R W) x y → MayFallSilent (SilenceCause l m) P y z → MayFallSilent (SilenceCause k m) (λ s t. W s v t) x z
  end_on R W P v before later f = goes_two (RestDecides R W) P (λ s t. W s v t) (λ s n t d p. d v t (f n t p)) k l m before later x y z

  -- one step more, behind which less is left
  pub step_on : (R Q W : Rest A) (P : WorldState A → WorldState A → Type 0) → IsLater k l → IsLater l m → ((n t : WorldState A) → P n t → (d : Data) (u : WorldState A) → Q t d u → R n d u) →
      MayFallSilent (SilenceCause k l) (RestDecides R W) x y → MayFallSilent (SilenceCause l m) P y z → MayFallSilent (SilenceCause k m) (RestDecides Q W) x z
  step_on R Q W P before later f = goes_two (RestDecides R W) P (RestDecides Q W) (λ s n t e p d u q. e d u (f n t p d u q)) k l m before later x y z

-- nothing is left to do
pub end_here : {A : Type 0} (lost : Type 0) (x y : Option (WorldState A)) (R W : Rest A) (v : Data) → ((s : WorldState A) → R s v s) → MayFallSilent lost (RestDecides R W) x y → MayFallSilent lost (λ s t. W s v t) x y
end_here lost x y R W v f = goes_weaker lost (RestDecides R W) (λ s t. W s v t) (λ s t d. d v t (f t)) x y
