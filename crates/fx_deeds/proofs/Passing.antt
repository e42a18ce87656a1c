-- One performing after another.
use Rattle.std.proofs.Common.{◌≡◌, ◌≤◌, List, [], ◌∷◌, ◌++◌, Option, Some, None, Result, Ok, Err, refl, ap, sym, subst, ◌∙◌, arith, append_assoc, inl, inr}
use Rattle.std.specs.Prelude.{IfOk, OnErr}
use Rattle.std.proofs.lemmas.List.{append-nil}
use Rattle.fx_base.proofs.Silences.{goes_two, goes_weaker, later_then}
use Rattle.fx_base.specs.Silence.{MayFallSilent, IsLater, SilenceCause}
use Rattle.fx_base.specs.Telling.{Stays}
use Rattle.fx_core.specs.declared.sources.Source.{Source}
use Rattle.fx_deeds.specs.WorldSteps.{Passed, Stage}
use Rattle.fx_deeds.specs.State.{WorldState}
use Rattle.fx_deeds.specs.Within.{IsAmong, SameBut, Within}

among_left : (x : Source) (xs ys : List Source) → IsAmong x xs → IsAmong x (xs ++ ys)
among_left x [] ys h = absurd h
among_left x (z ∷ xs) ys (inl e) = inl e
among_left x (z ∷ xs) ys (inr h) = inr (among_left x xs ys h)

among_right : (x : Source) (xs ys : List Source) → IsAmong x ys → IsAmong x (xs ++ ys)
among_right x [] ys h = h
among_right x (z ∷ xs) ys h = inr (among_right x xs ys h)

same_on : {A : Type 0} (xs ys : List Source) (a b c : WorldState A) → SameBut xs a b → SameBut ys b c → SameBut (xs ++ ys) a c
same_on xs ys a b c p q = record {
  app = q.app ∙ p.app;
  kept = q.kept ∙ p.kept;
  tables = λ k n. q.tables k (λ h. n (among_right _ xs ys h)) ∙ p.tables k (λ h. n (among_left _ xs ys h));
  variables = λ k n m. q.variables k (λ h. n (among_right _ xs ys h)) (λ h. m (among_right _ xs ys h)) ∙ p.variables k (λ h. n (among_left _ xs ys h)) (λ h. m (among_left _ xs ys h));
  collections = λ k n. q.collections k (λ h. n (among_right _ xs ys h)) ∙ p.collections k (λ h. n (among_left _ xs ys h));
  inputs = λ k n. q.inputs k (λ h. n (among_right _ xs ys h)) ∙ p.inputs k (λ h. n (among_left _ xs ys h));
  chosen = λ k n. q.chosen k (λ h. n (among_right _ xs ys h)) ∙ p.chosen k (λ h. n (among_left _ xs ys h));
  accepted = q.accepted ∙ p.accepted;
  room = q.room ∙ p.room;
}

pub within_nowhere : {A : Type 0} (a : WorldState A) → Within a a
within_nowhere a = record {
  more = [];
  wrote = sym (append-nil a.wrote);
  same = record {
    app = refl;
    kept = refl;
    tables = λ k n. refl;
    variables = λ k n m. refl;
    collections = λ k n. refl;
    inputs = λ k n. refl;
    chosen = λ k n. refl;
    accepted = refl;
    room = refl;
  };
}

pub within_on : {A : Type 0} (a b c : WorldState A) → Within a b → Within b c → Within a c
within_on a b c p q = record {
  more = p.more ++ q.more;
  wrote = q.wrote ∙ ap (λ z. z ++ q.more) p.wrote ∙ append_assoc a.wrote p.more q.more;
  same = same_on p.more q.more a b c p.same q.same;
}

pub passed_on : {A : Type 0} (a b c : Stage A) → Passed a b → Passed b c → Passed a c
passed_on a b c p q = record {
  fixed = q.fixed ∙ p.fixed;
  state = goes_two Within Within Within within_on a.marks b.marks c.marks p.later q.later a.state b.state c.state p.state q.state;
  later = later_then a.marks b.marks c.marks p.later q.later;
  visited = let v = p.visited in let w = q.visited in omega arith;
}

-- a call that leaves the state
pub passed_staying : {A : Type 0} (a b : Stage A) → b.fixed ≡ a.fixed → MayFallSilent (SilenceCause a.marks b.marks) Stays a.state b.state → IsLater a.marks b.marks → a.visited ≤ b.visited → Passed a b
passed_staying a b f s l v = record {
  fixed = f;
  state = goes_weaker (SilenceCause a.marks b.marks) Stays Within (λ x y e. subst (λ z. Within x z) (sym e) (within_nowhere x)) a.state b.state s;
  later = l;
  visited = v;
}

-- what holds at either end of a call
pub either_end : {T E : Type 0} (r : Result T E) (P : T → Type 0) (Q R : Type 0) → ((x : T) → P x → R) → (Q → R) → IfOk r P → OnErr r Q → R
either_end (Ok x) P Q R f g p q = f x p
either_end (Err e) P Q R f g p q = g q

-- a call that makes a change, or leaves the state
pub passed_changing : {A T E : Type 0} (r : Result T E) (a b : Stage A) (P : T → WorldState A → WorldState A → Type 0) → ((d : T) (s t : WorldState A) → P d s t → Within s t) →
    b.fixed ≡ a.fixed → IfOk r (λ d. MayFallSilent (SilenceCause a.marks b.marks) (P d) a.state b.state) → OnErr r (MayFallSilent (SilenceCause a.marks b.marks) Stays a.state b.state) →
    IsLater a.marks b.marks → a.visited ≤ b.visited → Passed a b
passed_changing r a b P within f d s l v =
    either_end r (λ d. MayFallSilent (SilenceCause a.marks b.marks) (P d) a.state b.state) (MayFallSilent (SilenceCause a.marks b.marks) Stays a.state b.state) (Passed a b)
    (λ x h. record { fixed = f; state = goes_weaker (SilenceCause a.marks b.marks) (P x) Within (within x) a.state b.state h; later = l; visited = v })
    (λ h. passed_staying a b f h l v) d s

pub same_state : {A : Type 0} (lost : Type 0) (x : Option (WorldState A)) → MayFallSilent lost Stays x x
same_state lost None = refl
same_state lost (Some s) = refl

-- nothing was done
pub passed_nowhere : {A : Type 0} (a : Stage A) → Passed a a
passed_nowhere a = passed_staying a a refl (same_state (SilenceCause a.marks a.marks) a.state) (record { faults = omega arith; doubt = omega arith }) (omega arith)
