-- The tables that rows are kept in, and the indexes of their keys.
use Rattle.std.specs.Prelude.{◌≡◌, ℕ, false, true, List, [], ◌∷◌, codes}
use Rattle.sql_meanings.specs.Schema.{lines_at, marks_at, shape_at, tabs_at}
use Rattle.sqlite.specs.Table.{Table}
use Rattle.sqlite_schema.specs.declared.schema.Index.{Index}

-- it has no rule but its keys
pub record IsBare (t : Table) : Type 0 where
  pub checks : t.checks ≡ []
  pub references : t.references ≡ []
  pub computed : t.computed ≡ []
  pub stamps : t.stamps ≡ record { places = []; terms = []; formats = [] }
  pub uncounted : t.is_counted ≡ false

-- an index that keeps these places of a table distinct
abbrev pub index_of : List ℕ → ℕ → ℕ → List ℕ → Index
index_of name tree table places = record {
  name = name;
  tree = tree;
  table = table;
  columns = places;
  order = record { digits = 0 };
  is_unique = true;
}

-- the four tables as they stand in the database
abbrev pub kept_tables : List Table
kept_tables = shape_at ∷ tabs_at ∷ lines_at ∷ marks_at ∷ []

-- the indexes of their keys
abbrev pub kept_indexes : List Index
kept_indexes = index_of (codes "sqlite_autoindex_lines_1") 3 2 (1 ∷ 2 ∷ [])
    ∷ index_of (codes "sqlite_autoindex_marks_1") 5 4 (1 ∷ 2 ∷ 3 ∷ 4 ∷ []) ∷ []
