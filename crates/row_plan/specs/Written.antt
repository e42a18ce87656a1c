-- What the statements at the end of a transaction make of the contents of a database.
use Rattle.std.specs.Prelude.{◌≡◌, ◌≤◌, ℕ, suc, ⊤, true, List, [], ◌∷◌, ◌++◌, length}
use Rattle.std.specs.BTreeMap.{IsOrdered}
use Rattle.std.specs.Ordering.{nat_cmp}
use Rattle.fx_core.specs.declared.schema.Column.{Column}
use Rattle.fx_core.specs.declared.schema.TableShape.{TableShape}
use Rattle.sql_meanings.specs.Lasts.{LastsOf}
use Rattle.sql_contents.specs.Contents.{Contents}
use Rattle.row_changes.specs.Overlay.{AreOf, last_of, overlay}
use Rattle.row_changes.specs.declared.table.TableChanges.{TableChanges}
use Rattle.row_plan.specs.Marked.{AreMarked, marked_at}
use Rattle.row_plan.specs.Plan.{table_statements}
use Rattle.row_plan.specs.Statements.{CanRunAll, Statement, after}

-- those of all tables, from the table of this number on
abbrev pub all_statements : ℕ → List TableShape → List TableChanges → List Statement
all_statements tab [] cs = []
all_statements tab (t ∷ ts) [] = []
all_statements tab (t ∷ ts) (c ∷ cs) = table_statements tab t.columns c
    ++ all_statements (suc tab) ts cs

-- the changes are ones of a table's lines, and the lines have their marks
pub record IsOfTable (k : Contents) (tab : ℕ) (columns : List Column) (c : TableChanges)
    : Type 0 where
  pub ordered : IsOrdered nat_cmp c.changed
  pub changes : AreOf (k.lines tab) c
  pub marks : (place : ℕ) → marked_at columns place ≡ true
      → AreMarked (suc place) (k.lines tab) (k.marks tab (suc place))

abbrev pub AreOfTables : Contents → ℕ → List TableShape → List TableChanges → Type 0
AreOfTables k tab [] [] = ⊤
AreOfTables k tab (t ∷ ts) (c ∷ cs) = IsOfTable k tab t.columns c × AreOfTables k (suc tab) ts cs
AreOfTables k tab [] (c ∷ cs) = ⊥
AreOfTables k tab (t ∷ ts) [] = ⊥

-- each table with the last number that it had given as the transaction began, and with the one that
-- it has given now
abbrev pub lasts_then : ℕ → List TableChanges → LastsOf
lasts_then tab [] = []
lasts_then tab (c ∷ cs) = (tab, c.first) ∷ lasts_then (suc tab) cs

abbrev pub lasts_now : ℕ → List TableChanges → LastsOf
lasts_now tab [] = []
lasts_now tab (c ∷ cs) = (tab, last_of c) ∷ lasts_now (suc tab) cs

-- a table has the lines that the transaction has made of it, and their marks
pub record IsWritten (k l : Contents) (tab : ℕ) (columns : List Column) (c : TableChanges)
    : Type 0 where
  pub lines : l.lines tab ≡ overlay c (k.lines tab)
  pub marks : (place : ℕ) → marked_at columns place ≡ true
      → AreMarked (suc place) (l.lines tab) (l.marks tab (suc place))

abbrev pub AreWritten : Contents → Contents → ℕ → List TableShape → List TableChanges → Type 0
AreWritten k l tab [] [] = ⊤
AreWritten k l tab (t ∷ ts) (c ∷ cs) = IsWritten k l tab t.columns c
    × AreWritten k l (suc tab) ts cs
AreWritten k l tab [] (c ∷ cs) = ⊥
AreWritten k l tab (t ∷ ts) [] = ⊥

-- all of it is written, and nothing else
pub record Writes (k l : Contents) (ts : List TableShape) (cs : List TableChanges) : Type 0 where
  pub tables : AreWritten k l 0 ts cs
  pub lasts : l.lasts ≡ lasts_now 0 cs
  pub body : l.body ≡ k.body
  pub others : (tab : ℕ) → length ts ≤ tab → l.lines tab ≡ k.lines tab

-- the statements have their meaning, and write it
abbrev pub PlansWrite : Type 0
PlansWrite = (k : Contents) (ts : List TableShape) (cs : List TableChanges) → AreOfTables k 0 ts cs
    → k.lasts ≡ lasts_then 0 cs
    → CanRunAll (all_statements 0 ts cs) k × Writes k (after (all_statements 0 ts cs) k) ts cs
