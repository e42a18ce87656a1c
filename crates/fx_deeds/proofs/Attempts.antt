-- What is left by one call after another.
use Rattle.std.proofs.Common.{◌≡◌, ◌≤◌, Result, ◌∙◌}
use Rattle.std.specs.Prelude.{IfOk, OnErr}
use Rattle.fx_base.proofs.Silences.{goes_two, goes_weaker}
use Rattle.fx_base.specs.Silence.{MayFallSilent, IsLater, SilenceCause}
use Rattle.fx_base.specs.Telling.{Stays}
use Rattle.fx_core.specs.declared.sources.Source.{Source}
use Rattle.fx_deeds.proofs.Allowing.{unwritten, writes_on, writes_wider}
use Rattle.fx_deeds.proofs.Passing.{either_end, passed_changing, passed_nowhere, passed_on, passed_staying, same_state}
use Rattle.fx_deeds.specs.WorldSteps.{Attempt, Look, Stage}
use Rattle.fx_deeds.specs.State.{WorldState}
use Rattle.fx_deeds.specs.Within.{Within}
use Rattle.fx_deeds.specs.Writable.{WritesOnly}

-- ---- looks

pub look : {A : Type 0} (a b : Stage A) → b.fixed ≡ a.fixed → MayFallSilent (SilenceCause a.marks b.marks) Stays a.state b.state → IsLater a.marks b.marks → a.visited ≤ b.visited → Look a b
look a b f s l v = record { passed = passed_staying a b f s l v; stays = s }

pub look_none : {A : Type 0} (a : Stage A) → Look a a
look_none a = record { passed = passed_nowhere a; stays = same_state (SilenceCause a.marks a.marks) a.state }

pub look_on : {A : Type 0} (a b c : Stage A) → Look a b → Look b c → Look a c
look_on a b c p q = record {
  passed = passed_on a b c p.passed q.passed;
  stays = goes_two Stays Stays Stays (λ x y z e f. f ∙ e) a.marks b.marks c.marks p.passed.later q.passed.later a.state b.state c.state p.stays q.stays;
}

-- ---- how an attempt begins

-- the state was looked at
pub look_attempts : {A : Type 0} (a b : Stage A) (P : Source → Type 0) → Look a b → Attempt a b P
look_attempts a b P p = record { passed = p.passed; only = goes_weaker (SilenceCause a.marks b.marks) Stays (WritesOnly P) (unwritten P) a.state b.state p.stays }

-- nothing was done
pub attempt_none : {A : Type 0} (a : Stage A) (P : Source → Type 0) → Attempt a a P
attempt_none a P = look_attempts a a P (look_none a)

-- a call makes a change, or leaves the state
pub attempt_changing : {A T E : Type 0} (r : Result T E) (a b : Stage A) (P : Source → Type 0) (C : T → WorldState A → WorldState A → Type 0) →
    ((d : T) (s t : WorldState A) → C d s t → Within s t) → ((d : T) (s t : WorldState A) → C d s t → WritesOnly P s t) →
    b.fixed ≡ a.fixed → IfOk r (λ d. MayFallSilent (SilenceCause a.marks b.marks) (C d) a.state b.state) → OnErr r (MayFallSilent (SilenceCause a.marks b.marks) Stays a.state b.state) →
    IsLater a.marks b.marks → a.visited ≤ b.visited → Attempt a b P
attempt_changing r a b P C within only f d s l v = record {
  passed = passed_changing r a b C within f d s l v;
  only = either_end r (λ d. MayFallSilent (SilenceCause a.marks b.marks) (C d) a.state b.state) (MayFallSilent (SilenceCause a.marks b.marks) Stays a.state b.state) (MayFallSilent (SilenceCause a.marks b.marks) (WritesOnly P) a.state b.state)
      (λ x h. goes_weaker (SilenceCause a.marks b.marks) (C x) (WritesOnly P) (only x) a.state b.state h)
      (λ h. goes_weaker (SilenceCause a.marks b.marks) Stays (WritesOnly P) (unwritten P) a.state b.state h) d s;
}

-- ---- one after another

pub attempt_over : {A : Type 0} (a b c : Stage A) (P Q R : Source → Type 0) → ((x : Source) → P x → R x) → ((x : Source) → Q x → R x) → Attempt a b P → Attempt b c Q → Attempt a c R
attempt_over a b c P Q R f g p q = record {
  passed = passed_on a b c p.passed q.passed;
  only = goes_two (WritesOnly P) (WritesOnly Q) (WritesOnly R) (writes_on P Q R f g) a.marks b.marks c.marks p.passed.later q.passed.later a.state b.state c.state p.only q.only;
}

-- two of the same
pub attempt_on : {A : Type 0} (a b c : Stage A) (P : Source → Type 0) → Attempt a b P → Attempt b c P → Attempt a c P
attempt_on a b c P p q = attempt_over a b c P P P (λ x w. w) (λ x w. w) p q

-- what was allowed, and then what is no more
pub attempt_next : {A : Type 0} (a b c : Stage A) (P Q : Source → Type 0) → ((x : Source) → Q x → P x) → Attempt a b P → Attempt b c Q → Attempt a c P
attempt_next a b c P Q f p q = attempt_over a b c P Q P (λ x w. w) f p q

-- and behind a look
pub look_then : {A : Type 0} (a b c : Stage A) (P : Source → Type 0) → Look a b → Attempt b c P → Attempt a c P
look_then a b c P p q = attempt_on a b c P (look_attempts a b P p) q

-- what is allowed is allowed by more
pub attempt_wider : {A : Type 0} (a b : Stage A) (P Q : Source → Type 0) → ((x : Source) → P x → Q x) → Attempt a b P → Attempt a b Q
attempt_wider a b P Q f p = record { passed = p.passed; only = goes_weaker (SilenceCause a.marks b.marks) (WritesOnly P) (WritesOnly Q) (writes_wider P Q f) a.state b.state p.only }

-- two of the same, from nothing and behind a look
pub ruleset attempts = (attempt_none, look_attempts, look_then, attempt_on)
