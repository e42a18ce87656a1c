-- How the end of a transaction of the database is told.
use Rattle.std.proofs.Common.{◌≡◌, ◌≢◌, ◌≤◌, IsTrue, false, List, Result, Ok, Err, OnErr, OnOk, arith, refl, subst, sym}
use Rattle.fx_core.specs.declared.schema.Schema.{Schema}
use Rattle.sqlite.specs.State.{State, HasCleanDisk}
use Rattle.sqlite_trees.specs.View.{doubt}
use Rattle.sql_meanings.specs.UnderWay.{IsReady}
use Rattle.sql_contents.specs.Contents.{Contents, contents_of}
use Rattle.sql_statements.specs.declared.endings.Ending.{Ending}
use Rattle.sql_statements.specs.declared.endings.Ending.TheVariants.{Done, Failed}
use Rattle.row_keeper.specs.declared.keeper.KeeperEnd.{KeeperEnd}
use Rattle.row_changes.specs.declared.table.TableChanges.{TableChanges}
use Rattle.row_plan.specs.Statements.{CanRunAll, Statement, after}
use Rattle.row_plan.specs.Written.{all_statements}
use Rattle.sql_playing.specs.Played.{RestsAt}
use Rattle.store_model.specs.Ends.{call_failed}
use Rattle.store_model.specs.Steady.{IsShapedSo}
use Rattle.store_model.proofs.CommitLemmas.{commits_told}
use Rattle.store_writing.specs.Writes.{WritesChanges}

-- no statement was run
pub not_written : {T : Type 0} (s : State) (schema : Schema) (cs : List TableChanges) (r : Result T KeeperEnd) (e : KeeperEnd) → r ≡ Err e → WritesChanges s s schema cs r
not_written s schema cs (Ok x) e is = absurd cc
not_written s schema cs (Err x) e is = record { later = omega arith; done = λ clean rest shaped. tt; undone = λ clean ready safe. (ready, refl) }

pub written : {T : Type 0} (s t : State) (schema : Schema) (cs : List TableChanges) (ss : List Statement) (r : Result T KeeperEnd) (e : Ending) → ss ≡ all_statements 0 schema.tables cs → doubt s.is_clean ≤ doubt t.is_clean
    → (HasCleanDisk t → (k : Contents) → RestsAt s k → CanRunAll ss k → e ≡ Done → RestsAt t (after ss k)) → (HasCleanDisk t → IsTrue t.is_open → IsReady s → e ≢ Done → IsReady t × (t.now ≡ s.now)) → (HasCleanDisk t → IsReady s → e ≢ Failed → IsTrue t.is_open)
    → OnOk r (e ≡ Done) → OnErr r (e ≢ Done) → (call_failed r ≡ false → e ≢ Failed) → WritesChanges s t schema cs r
written {T} s t schema cs ss r e same later done undone on ok err safe = record { later = later; done = all_done r ok; undone = none_done r err safe }
  where
    all_done : (r : Result T KeeperEnd) → OnOk r (e ≡ Done) → HasCleanDisk t → RestsAt s (contents_of s.now.trees) → IsShapedSo (contents_of s.now.trees) schema cs → OnOk r (RestsAt t (after (all_statements 0 schema.tables cs) (contents_of s.now.trees)))
    all_done (Err x) is clean rest shaped = tt
    all_done (Ok x) is clean rest shaped =
        let k = contents_of s.now.trees in
        let can : CanRunAll ss k = subst (λ l. CanRunAll l k) (sym same) (commits_told s.now.trees schema cs shaped).0 in
        subst (λ l. RestsAt t (after l k)) same (done clean k rest can is)

    none_done : (r : Result T KeeperEnd) → OnErr r (e ≢ Done) → (call_failed r ≡ false → e ≢ Failed) → HasCleanDisk t → IsReady s → OnErr r (call_failed r ≡ false → IsReady t × (t.now ≡ s.now))
    none_done (Ok x) not_done sound clean ready = tt
    none_done (Err x) not_done sound clean ready = λ safe. undone clean (on clean ready (sound safe)) ready not_done
