-- A connection at rest, once it was read.
use Rattle.std.proofs.Common.{◌≡◌, ◌∙◌, ◌≤◌, IsTrue, false, Result, Ok, Err, inl, inr, ap, arith, subst, sym}
use Rattle.sqlite.specs.Effect.{Database}
use Rattle.sqlite.specs.State.{State, HasCleanDisk, IsUnchanged}
use Rattle.sqlite_trees.specs.View.{doubt}
use Rattle.sql_meanings.specs.Calls.{RunsReading}
use Rattle.sql_meanings.specs.Forms.{LeavesOrRollsBack}
use Rattle.sql_meanings.specs.Schema.{kept_schema}
use Rattle.sql_meanings.specs.UnderWay.{AreSeated, IsReady}
use Rattle.row_keeper.specs.declared.keeper.KeeperEnd.{KeeperEnd}
use Rattle.row_keeper.specs.declared.keeper.KeeperEnd.TheVariants.{Memory, Failed}
use Rattle.store_model.specs.Ends.{call_failed}
use Rattle.store_asking.specs.Asked.{StaysAtRest}

rests_as : (old new : State) → IsReady old → IsTrue new.is_open → new.in_transaction ≡ false → new.now ≡ old.now → new.committed ≡ old.committed → IsReady new × (new.now ≡ old.now)
rests_as old new ready up idle same kept = (
  record {
    is_open = up;
    idle = idle;
    settled = same ∙ ready.settled ∙ sym kept;
    schema = ap (λ (d : Database). d.schema) same ∙ ready.schema;
    seated = subst (λ (d : Database). AreSeated d.trees) (sym same) ready.seated;
  },
  same,
)

-- it was read, and nothing has changed
pub rests_on : (old new : State) → IsReady old → IsUnchanged old new → IsReady new × (new.now ≡ old.now)
rests_on old new ready same = rests_as old new ready same.0.is_open (same.0.mode ∙ ready.idle) same.0.now_is same.0.committed_is

-- a statement was refused, and the connection still takes others
pub rests_after : (old mid new : State) → IsReady old → LeavesOrRollsBack old mid → IsUnchanged mid new → IsReady new × (new.now ≡ old.now)
rests_after old mid new ready (inl was) is =
    rests_as old new ready is.0.is_open (is.0.mode ∙ was.0.mode ∙ ready.idle) (is.0.now_is ∙ was.0.now_is) (is.0.committed_is ∙ was.0.committed_is)
rests_after old mid new ready (inr back) is =
    let undone = back.undone is.0.was_open in
    rests_as old new ready is.0.is_open (is.0.mode ∙ back.autocommit) (is.0.now_is ∙ undone.0 ∙ sym ready.settled) (is.0.committed_is ∙ undone.1)

-- a call that didn't fail has run out of memory
memory_of : {T : Type 0} (r : Result T KeeperEnd) (e : KeeperEnd) → r ≡ Err e → call_failed r ≡ false → e ≡ Memory
memory_of (Ok x) e is h = absurd cc
memory_of (Err Memory) e is h = cc
memory_of (Err Failed) e is h = absurd cc

pub asked : (old new : State) → doubt old.is_clean ≤ doubt new.is_clean → (HasCleanDisk new → old.now.schema ≡ kept_schema → IsUnchanged old new) → StaysAtRest old new false
asked old new later same = record { later = later; rests = λ clean ready safe. rests_on old new ready (same clean ready.schema) }

pub refused : {T : Type 0} (r : Result T KeeperEnd) (old mid new : State) (e : KeeperEnd) → r ≡ Err e → doubt old.is_clean ≤ doubt mid.is_clean → (old.now.schema ≡ kept_schema → RunsReading old mid) → doubt mid.is_clean ≤ doubt new.is_clean
    → (HasCleanDisk new → e ≡ Memory → IsUnchanged mid new) → StaysAtRest old new (call_failed r)
refused r old mid new e is first runs later same = record {
  later = omega (arith, first, later);
  rests = λ clean ready safe.
      let early : HasCleanDisk mid = omega (arith, clean, later) in
      rests_after old mid new ready ((runs ready.schema).left early) (same clean (memory_of r e is safe));
}
