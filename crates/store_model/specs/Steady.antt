-- What holds of a keeper over a connection where it tells its tables.
use Rattle.std.specs.Prelude.{◌≡◌, ℕ, suc, ◌≤◌, ⊤, true, false, List, [], ◌∷◌, None, Some, IfSome}
use Rattle.std.specs.Prelude.{length}
use Rattle.std.specs.List.{AllByRecursion}
use Rattle.fx_core.specs.Lawful.{IsLawfulSchema}
use Rattle.fx_core.specs.declared.schema.Column.{Column}
use Rattle.fx_core.specs.declared.schema.Schema.{Schema}
use Rattle.fx_core.specs.declared.schema.TableShape.{TableShape}
use Rattle.fx_value.specs.Keys.{IsProper}
use Rattle.sqlite.specs.Held.{Held}
use Rattle.sqlite.specs.State.{State}
use Rattle.sql_meanings.specs.Lines.{LinesOf}
use Rattle.sql_meanings.specs.UnderWay.{AreEmpty, IsReady}
use Rattle.sql_contents.specs.Contents.{Contents, Holds, contents_of}
use Rattle.row_queries.specs.TableRows.{AreCellsOf}
use Rattle.row_lines.specs.Bodies.{line_bytes, schema_bytes}
use Rattle.row_lines.specs.FromBytes.{cells_in, schema_in}
use Rattle.row_changes.specs.Moves.{HasNone}
use Rattle.row_changes.specs.Overlay.{overlay}
use Rattle.row_changes.specs.declared.table.TableChanges.{TableChanges}
use Rattle.row_plan.specs.Written.{AreOfTables, lasts_then}
use Rattle.store_model.specs.Model.{Kept, tells}
use Rattle.store_model.specs.declared.counts.RowCount.{RowCount}

-- ---- the rows of a table

-- the line of a row of these columns: its body is that of the cells that are read of it
pub record IsLineOf (columns : List Column) (x : ℕ × List ℕ) : Type 0 where
  pub id : 1 ≤ x.0
  pub fit : AreCellsOf columns (cells_in columns x.1)
  pub proper : AllByRecursion IsProper (cells_in columns x.1)
  pub body : line_bytes (cells_in columns x.1) ≡ x.1

abbrev pub AreLinesOf : List Column → LinesOf → Type 0
AreLinesOf columns xs = AllByRecursion (IsLineOf columns) xs

-- the lines that are kept of a table are ones of its rows, and so are those that a transaction has
-- made of them
pub record HasRows (contents : Contents) (tab : ℕ) (columns : List Column) (c : TableChanges)
    : Type 0 where
  pub then : AreLinesOf columns (contents.lines tab)
  pub now : AreLinesOf columns (overlay c (contents.lines tab))

-- of the tables from this one on
abbrev pub HaveRows : Contents → ℕ → List TableShape → List TableChanges → Type 0
HaveRows contents tab [] [] = ⊤
HaveRows contents tab (t ∷ ts) (c ∷ cs) = HasRows contents tab t.columns c
    × HaveRows contents (suc tab) ts cs
HaveRows contents tab [] (c ∷ cs) = ⊥
HaveRows contents tab (t ∷ ts) [] = ⊥

-- the database keeps this schema and its tables, of which the transaction has made these changes
pub record IsShapedSo (contents : Contents) (schema : Schema) (cs : List TableChanges)
    : Type 0 where
  pub lawful : IsLawfulSchema schema
  pub body : contents.body ≡ Some (schema_bytes schema)
  pub read : schema_in (schema_bytes schema) ≡ schema
  pub lasts : contents.lasts ≡ lasts_then 0 cs
  pub changes : AreOfTables contents 0 schema.tables cs
  pub rows : HaveRows contents 0 schema.tables cs

-- ---- the counts

-- a table has so many rows, and had so many as the transaction began
pub record IsCounted (kept : LinesOf) (c : TableChanges) (n : RowCount) : Type 0 where
  pub now : n.now ≡ length (overlay c kept)
  pub then : n.then ≡ length kept

-- the tables from this one on
abbrev pub AreCounted : Contents → ℕ → List TableChanges → List RowCount → Type 0
AreCounted contents tab [] [] = ⊤
AreCounted contents tab (c ∷ cs) (n ∷ ns) = IsCounted (contents.lines tab) c n
    × AreCounted contents (suc tab) cs ns
AreCounted contents tab [] (n ∷ ns) = ⊥
AreCounted contents tab (c ∷ cs) [] = ⊥

-- ---- the keeper

-- the connection is at rest on the four tables, which hold what is read of them
pub record IsAtRest (s : State) : Type 0 where
  pub ready : IsReady s
  pub held : Holds s.now.trees (contents_of s.now.trees)

abbrev pub IsUnchanged : TableChanges → Type 0
IsUnchanged c = HasNone c c.first

-- The database is at rest and holds its contents. Where the keeper is shaped, they are those of the
-- schema, and before that it has none; where no transaction is begun, nothing has changed.
pub record IsSteady {S : Type 0} (s : State) (k : Kept S) : Type 0 where
  pub ready : IsReady s
  pub held : Holds s.now.trees (contents_of s.now.trees)
  pub shaped : IfSome k.schema (λ schema. IsShapedSo (contents_of s.now.trees) schema k.tables)
  pub unshaped : k.schema ≡ None → (k.tables ≡ []) × AreEmpty s.now.trees
  pub counted : AreCounted (contents_of s.now.trees) 0 k.tables k.counts
  pub still : k.is_begun ≡ false → AllByRecursion IsUnchanged k.tables × (k.moved ≡ None)

-- what is true of it at any time
abbrev pub IsKept : {S : Type 0} → (Held S → State) → Kept S → Type 0
IsKept state k = IfSome k.seat (λ conn. tells (state conn) k.knows ≡ true → IsSteady (state conn) k)
