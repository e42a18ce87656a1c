-- What becomes of a connection at rest as the changes of a transaction are written.
use Rattle.std.specs.Prelude.{◌≡◌, ◌≤◌, false, List, Result, OnErr, OnOk}
use Rattle.fx_core.specs.declared.schema.Schema.{Schema}
use Rattle.sqlite.specs.State.{State, HasCleanDisk}
use Rattle.sqlite_trees.specs.View.{doubt}
use Rattle.sql_meanings.specs.UnderWay.{IsReady}
use Rattle.sql_contents.specs.Contents.{contents_of}
use Rattle.row_keeper.specs.declared.keeper.KeeperEnd.{KeeperEnd}
use Rattle.row_changes.specs.declared.table.TableChanges.{TableChanges}
use Rattle.row_plan.specs.Statements.{after}
use Rattle.row_plan.specs.Written.{all_statements}
use Rattle.sql_playing.specs.Played.{RestsAt}
use Rattle.store_model.specs.Ends.{call_failed}
use Rattle.store_model.specs.Steady.{IsShapedSo}

-- All of them are written, and it is at rest again. Where memory runs out it is at rest as before,
-- and the doubt of the disk never falls.
pub record WritesChanges {T : Type 0} (old new : State) (schema : Schema) (cs : List TableChanges)
    (r : Result T KeeperEnd) : Type 0 where
  pub later : doubt old.is_clean ≤ doubt new.is_clean
  pub done : HasCleanDisk new → RestsAt old (contents_of old.now.trees)
      → IsShapedSo (contents_of old.now.trees) schema cs
      → OnOk r (RestsAt new (after (all_statements 0 schema.tables cs) (contents_of old.now.trees)))
  pub undone : HasCleanDisk new → IsReady old
      → OnErr r (call_failed r ≡ false → IsReady new × (new.now ≡ old.now))
