-- Statements one after another.
use Rattle.std.proofs.Common.{◌≡◌, ◌∙◌, ℕ, zero, suc, ◌+◌, ◌<◌, true, List, [], ◌∷◌, take, length, get_or, ap, arith, refl, subst}
use Rattle.sqlite.specs.State.{State, HasCleanDisk}
use Rattle.sqlite.proofs.InsideLemmas.{keeps_then}
use Rattle.sqlite.proofs.StateLemmas.{survives_then}
use Rattle.sql_meanings.specs.Calls.{RunsInside}
use Rattle.sql_contents.specs.Contents.{Contents}
use Rattle.row_plan.specs.Shown.{all_shown, shown}
use Rattle.row_plan.specs.Statements.{CanRun, CanRunAll, after, contents_after}
use Rattle.row_plan.specs.declared.steps.Step.{Step}
use Rattle.sql_playing.specs.Played.{IsAt, StaysInside}

can_run_at : (k : Contents) (steps : List Step) (i : ℕ) (d : Step) → CanRunAll (all_shown steps) k → i < length steps → CanRun (shown (get_or steps i d)) (after (all_shown (take i steps)) k)
can_run_at k [] i d can h = absurd (omega (arith, h))
can_run_at k (s ∷ steps) zero d can h = can.0
can_run_at k (s ∷ steps) (suc i) d can h = can_run_at (contents_after (shown s) k) steps i d can.1 (omega (arith, h))

one_more_step : (k : Contents) (steps : List Step) (i : ℕ) (d : Step) → i < length steps → contents_after (shown (get_or steps i d)) (after (all_shown (take i steps)) k) ≡ after (all_shown (take (suc i) steps)) k
one_more_step k [] i d h = absurd (omega (arith, h))
one_more_step k (s ∷ steps) zero d h = refl
one_more_step k (s ∷ steps) (suc i) d h = one_more_step (contents_after (shown s) k) steps i d (omega (arith, h))

pub step_after : (new : State) (k : Contents) (steps : List Step) (i : ℕ) (d : Step) → i < length steps → CanRunAll (all_shown steps) k
    → (CanRun (shown (get_or steps i d)) (after (all_shown (take i steps)) k) → IsAt new (contents_after (shown (get_or steps i d)) (after (all_shown (take i steps)) k)))
    → IsAt new (after (all_shown (take (i + 1) steps)) k)
step_after new k steps i d h can runs =
    let next : suc i ≡ i + 1 = omega arith in
    subst (IsAt new) (one_more_step k steps i d h ∙ ap (λ n. after (all_shown (take n steps)) k) next) (runs (can_run_at k steps i d can h))

-- one call more inside the transaction
pub inside_more : (old mid new : State) → (HasCleanDisk mid → old.in_transaction ≡ true → StaysInside old mid) → RunsInside old mid → RunsInside mid new → RunsInside old new
inside_more old mid new on first second = record {
  kept = λ clean begun.
      let early : HasCleanDisk mid = omega (arith, clean, second.survives.clean) in
      keeps_then old mid new (first.kept early begun) (second.kept clean (on early begun).under_way);
  survives = survives_then old mid new (λ _. ⊥) (λ _. ⊥) (λ _. ⊥) (λ _ db none. none) (λ _ db none. none) first.survives second.survives;
}
