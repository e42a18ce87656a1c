-- What every call leaves, whatever its text: for the answers.
use Rattle.std.proofs.Common.{IsTrue, ◌≡◌, ◌⊎◌, ◌∙◌, inl, inr, refl, ap, length, ℕ, List, [], ◌∷◌, true, Ok, Err, Result, IfOk, IfErr, OnOk, OnErr, None, false, arith, sym, subst}
use Rattle.std.specs.Prelude.{Vec}
use Rattle.std.specs.declared.alloc.Global.{Global}
use Rattle.sqlite_value.specs.Order.{Row}
use Rattle.sqlite.specs.declared.error.Error.{Error}
use Rattle.sqlite.specs.Listing.{understood}
use Rattle.sqlite.specs.Clock.{timed}
use Rattle.sqlite.specs.State.{State, HasCleanDisk, IsNoStatement, IsNotRun, IsUnchanged, KeepsCommit, Fails, ExecutesInside, ShowsRows, Shown, FailsToQuery, FailsToShow, Survives, CommitsShowing}
use Rattle.sqlite.proofs.Callers.{IsPlain, never_commits}
use Rattle.sqlite.proofs.InsideLemmas.{inside_keeps, keeps_then}
use Rattle.sqlite.proofs.StateLemmas.{survives_then, survives_weaker}
use Rattle.sql_meanings.specs.Schema.{kept_schema}
use Rattle.sql_meanings.specs.Forms.{GoesOn, LeavesOrRollsBack}
use Rattle.sql_meanings.specs.Calls.{RunsInside, RunsReading}
use Rattle.sql_meanings.specs.Texts.{read_body}
use Rattle.sql_meanings.proofs.Meanings.{IsWhole, read_body_whole}

-- ---- statements inside a transaction

module _ (old new : State) (sql : List ℕ) (params : Row) (r : Result ℕ Error) (runs : HasCleanDisk new → IsTrue old.in_transaction → ExecutesInside 0 sql params old new r) where
  pub goes_on : HasCleanDisk new → old.in_transaction ≡ true → OnOk r (GoesOn old new)
  goes_on clean begun = go r (runs clean begun)
    where
      go : (r : Result ℕ Error) → ExecutesInside 0 sql params old new r → OnOk r (GoesOn old new)
      go (Ok count) h = record { is_open = h.1.is_open; under_way = h.1.mode; committed = h.1.committed_is }
      go (Err e) h = tt

  pub stops : HasCleanDisk new → old.in_transaction ≡ true → OnErr r (LeavesOrRollsBack old new)
  stops clean begun = go r (runs clean begun)
    where
      go : (r : Result ℕ Error) → ExecutesInside 0 sql params old new r → OnErr r (LeavesOrRollsBack old new)
      go (Ok count) h = tt
      go (Err e) (inl h) = h.1
      go (Err e) (inr h) = inl h.2

  pub runs_inside : Survives old new (λ _. ⊥) → RunsInside old new
  runs_inside survives = record { kept = λ clean begun. inside_keeps old new 0 false sql params r (runs clean begun); survives = survives }

-- one call behind another one, which was answered
module _ (old mid new : State) (on : HasCleanDisk mid → old.in_transaction ≡ true → GoesOn old mid) (first : RunsInside old mid) (second : RunsInside mid new) where
  early : HasCleanDisk new → HasCleanDisk mid
  early clean = omega (arith, second.survives.clean)

  pub inside_then : RunsInside old new
  inside_then = record {
    kept = λ clean begun. keeps_then old mid new (first.kept (early clean) begun) (second.kept clean (on (early clean) begun).under_way);
    survives = survives_then old mid new (λ _. ⊥) (λ _. ⊥) (λ _. ⊥) (λ _ db none. none) (λ _ db none. none) first.survives second.survives;
  }

  pub on_then : (HasCleanDisk new → mid.in_transaction ≡ true → GoesOn mid new) → HasCleanDisk new → old.in_transaction ≡ true → GoesOn old new
  on_then more clean begun =
      let was = on (early clean) begun in
      let is = more clean was.under_way in
      record { is_open = is.is_open; under_way = is.under_way; committed = is.committed ∙ was.committed }

-- ---- a statement that is only looked at

can_run : (s : State) (e : Error) → s.now.schema ≡ kept_schema → IsNoStatement s read_body [] e → ⊥
can_run s e has h =
    let whole : IsWhole read_body (understood s.now.schema read_body) = subst (λ t. IsWhole read_body (understood t read_body)) (sym has) read_body_whole in
    elim h [
      | inl bad ↦ subst (IsWhole read_body) bad.1 whole
      | inr text ↦ (let it = subst (IsWhole read_body) text.1 whole in elim text.2 [
        | inl more ↦ more.0 (omega (arith, it.0))
        | inr (inl given) ↦ given.0 (ap length (sym it.1))
        | inr (inr clock) ↦ clock.0 it.2
      ])
    ]

-- where it isn't taken, memory has run out, the disk has failed, or the connection was shut
pub not_taken : (old new : State) (e : Error) → old.now.schema ≡ kept_schema → IsNotRun old new read_body [] e → Fails old new ⊥ e
unfolding IsNotRun
not_taken old new e has (inl h) = absurd (can_run old e has h.0)
not_taken old new e has (inr h) = h

-- ---- statements that read

pub not_run : (old new : State) (sql : List ℕ) (params : Row) (e : Error) → IsNotRun old new sql params e → LeavesOrRollsBack old new
unfolding IsNotRun
not_run old new sql params e (inl h) = inl h.1
not_run old new sql params e (inr h) = inr h.3

unchanged : (sql : List ℕ) (params : Row) (old new : State) (rows : List Row) → IsPlain (understood old.now.schema sql) → Shown sql params old new rows → IsUnchanged old new
unfolding Shown
unchanged sql params old new rows plain h =
    let none = (subst IsPlain h.1.is plain).0 in
    let full = timed params h.0.formats h.1.now in
    let it = subst (ShowsRows old new sql h.0 full rows) none h.2 in
    it.3

not_shown : (sql : List ℕ) (params : Row) (old new : State) (e : Error) → IsPlain (understood old.now.schema sql) → FailsToQuery sql params old new e → LeavesOrRollsBack old new
unfolding FailsToQuery
not_shown sql params old new e plain (inl h) = not_run old new sql params e h
not_shown sql params old new e plain (inr h) =
    let none = (subst IsPlain h.1.is plain).0 in
    let full = timed params h.0.formats h.1.now in
    let it = subst (λ o. FailsToShow old new sql h.0 full e o) none h.2 in
    inl it.3

module _ (sql : List ℕ) (plain : IsPlain (understood kept_schema sql)) (params : Row) (old new : State) (has : old.now.schema ≡ kept_schema)
    (r : Result (Vec Row Global) Error) (shown : HasCleanDisk new → IfOk r (λ rows. Shown sql params old new rows.items)) (failed : HasCleanDisk new → IfErr r (FailsToQuery sql params old new)) where
  plain_here : IsPlain (understood old.now.schema sql)
  plain_here = subst (λ s. IsPlain (understood s sql)) (sym has) plain

  pub only_reads : HasCleanDisk new → OnOk r (IsUnchanged old new)
  only_reads clean = go r (shown clean)
    where
      go : (r : Result (Vec Row Global) Error) → IfOk r (λ rows. Shown sql params old new rows.items) → OnOk r (IsUnchanged old new)
      go (Ok rows) h = unchanged sql params old new rows.items plain_here h
      go (Err e) h = tt

  pub runs_reading : Survives old new (CommitsShowing sql params old) → RunsReading old new
  runs_reading survives = record {
    left = λ clean. go r (shown clean) (failed clean);
    survives = survives_weaker old new _ _ (λ _ db. never_commits sql params old db plain_here) survives;
  }
    where
      go : (r : Result (Vec Row Global) Error) → IfOk r (λ rows. Shown sql params old new rows.items) → IfErr r (FailsToQuery sql params old new) → LeavesOrRollsBack old new
      go (Ok rows) h none = inl (unchanged sql params old new rows.items plain_here h)
      go (Err e) none h = not_shown sql params old new e plain_here h
