-- What is kept once the changes of a transaction are written.
use Rattle.std.specs.Prelude.{◌≡◌, ⊤, Bool, true, false, List, [], ◌∷◌}
use Rattle.fx_core.specs.declared.schema.Schema.{Schema}
use Rattle.sqlite.specs.Tree.{Trees}
use Rattle.sql_contents.specs.Contents.{Holds, contents_of}
use Rattle.row_changes.specs.Moves.{HasNone}
use Rattle.row_changes.specs.Overlay.{last_of}
use Rattle.row_changes.specs.declared.table.TableChanges.{TableChanges}
use Rattle.row_plan.specs.Statements.{CanRunAll, after}
use Rattle.row_plan.specs.Written.{all_statements}
use Rattle.store_model.specs.Decoded.{tables_changed, tables_kept}
use Rattle.store_model.specs.Steady.{IsShapedSo}
use Rattle.store_model.specs.declared.counts.RowCount.{RowCount}

-- the statements of a plan have their meaning, and where the database then holds what they make of
-- it, it keeps the tables as they were told before
abbrev pub CommitsTold : Type 0
CommitsTold = (old : Trees) (schema : Schema) (cs : List TableChanges)
    → IsShapedSo (contents_of old) schema cs
    → CanRunAll (all_statements 0 schema.tables cs) (contents_of old)
    × ((new : Trees) → Holds new (after (all_statements 0 schema.tables cs) (contents_of old))
    → tables_kept new ≡ tables_changed old cs)

-- for each table no change, behind the last number that it had given
abbrev pub AreSettled : List TableChanges → List TableChanges → Type 0
AreSettled [] [] = ⊤
AreSettled (c ∷ cs) (d ∷ ds) = HasNone d (last_of c) × AreSettled cs ds
AreSettled [] (d ∷ ds) = ⊥
AreSettled (c ∷ cs) [] = ⊥

-- the database then keeps the schema and its tables, of which nothing has changed
abbrev pub CommitsShaped : Type 0
CommitsShaped = (old new : Trees) (schema : Schema) (cs ds : List TableChanges)
    → IsShapedSo (contents_of old) schema cs → Holds new
    (after (all_statements 0 schema.tables cs) (contents_of old)) → AreSettled cs ds
    → IsShapedSo (contents_of new) schema ds

-- for each table no change, behind the last number that it had given as the transaction began
abbrev pub AreRestored : List TableChanges → List TableChanges → Type 0
AreRestored [] [] = ⊤
AreRestored (c ∷ cs) (d ∷ ds) = HasNone d c.first × AreRestored cs ds
AreRestored [] (d ∷ ds) = ⊥
AreRestored (c ∷ cs) [] = ⊥

-- without the changes the tables are those that are kept, in order, and so they are told
abbrev pub RestoresKept : Type 0
RestoresKept = (trees : Trees) (schema : Schema) (cs ds : List TableChanges)
    → IsShapedSo (contents_of trees) schema cs → AreRestored cs ds
    → IsShapedSo (contents_of trees) schema ds × (tables_changed trees ds ≡ tables_kept trees)

-- ---- the end of a transaction, with its changes or without

abbrev pub IsEnded : Bool → TableChanges → TableChanges → Type 0
IsEnded true c d = HasNone d (last_of c)
IsEnded false c d = HasNone d c.first

abbrev pub AreEnded : Bool → List TableChanges → List TableChanges → Type 0
AreEnded true cs ds = AreSettled cs ds
AreEnded false cs ds = AreRestored cs ds

abbrev pub count_at_end : Bool → RowCount → RowCount
count_at_end true n = record { now = n.now; then = n.now }
count_at_end false n = record { now = n.then; then = n.then }
