-- A refused transaction, as it is told.
use Rattle.std.proofs.Common.{◌≡◌, ◌∙◌, inl, inr, IsTrue, false, sym, ap, subst}
use Rattle.sqlite.specs.Effect.{Database}
use Rattle.sqlite.specs.State.{State}
use Rattle.sql_meanings.specs.Forms.{LeavesOrRollsBack}
use Rattle.sql_meanings.specs.UnderWay.{AreSeated, IsReady}

rests_as : (old new : State) → IsReady old → IsTrue new.is_open → new.in_transaction ≡ false → new.now ≡ old.committed → new.committed ≡ old.committed → IsReady new × (new.now ≡ old.now)
rests_as old new ready up idle now kept =
    let same : new.now ≡ old.now = now ∙ sym ready.settled in (
      record {
        is_open = up;
        idle = idle;
        settled = now ∙ sym kept;
        schema = ap (λ (d : Database). d.schema) same ∙ ready.schema;
        seated = subst (λ (d : Database). AreSeated d.trees) (sym same) ready.seated;
      },
      same,
    )

-- where a refused transaction was undone, a look at the connection leaves it so
pub rests_again : (old mid new : State) → IsReady old → (IsTrue mid.is_open → (mid.now ≡ old.committed) × (mid.committed ≡ old.committed)) → new.in_transaction ≡ false → LeavesOrRollsBack mid new → IsTrue new.is_open → IsReady new × (new.now ≡ old.now)
rests_again old mid new ready undone idle (inl same) up =
    let was = undone same.0.was_open in
    rests_as old new ready up idle (same.0.now_is ∙ was.0) (same.0.committed_is ∙ was.1)
rests_again old mid new ready undone idle (inr back) up =
    let left = back.undone up in
    let was = undone (back.was_open up) in
    rests_as old new ready up idle (left.0 ∙ was.1) (left.1 ∙ was.1)

pub opened_before : (mid new : State) → LeavesOrRollsBack mid new → IsTrue new.is_open → IsTrue mid.is_open
opened_before mid new (inl same) up = same.0.was_open
opened_before mid new (inr back) up = back.was_open up
