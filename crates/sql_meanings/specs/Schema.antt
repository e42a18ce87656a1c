-- The four tables that rows are kept in, and their places in the database.
use Rattle.std.specs.Prelude.{ℕ, Bool, true, false, List, [], ◌∷◌, Some, None, codes}
use Rattle.sqlite.specs.declared.types.Value.TheVariants.{Null}
use Rattle.sqlite.specs.Collation.TheVariants.{Binary}
use Rattle.sqlite.specs.Table.{Table}
use Rattle.sqlite.specs.Schema.{Schema}
use Rattle.sqlite.specs.Change.{created}
use Rattle.sqlite.specs.Kind.{Kind}
use Rattle.sqlite.specs.Kind.TheVariants.{Integer, Any}
use Rattle.sqlite_schema.specs.declared.schema.Column.{Column}

abbrev pub column_of : List ℕ → Kind → Bool → Column
column_of name kind not_null = record {
  name = name;
  kind = kind;
  is_strict = false;
  not_null = not_null;
  default = Null;
  collation = Binary;
}

-- its first column is its rowid
abbrev pub keyed : List ℕ → List Column → Table
keyed name columns = record {
  name = name;
  tree = 0;
  columns = columns;
  key = Some 0;
  primary = 0 ∷ [];
  uniques = [];
  orders = [];
  checks = [];
  references = [];
  computed = [];
  stamps = record { places = []; terms = []; formats = [] };
  is_counted = false;
}

-- its key is that of these places, beside its rowid
abbrev pub unkeyed : List ℕ → List Column → List ℕ → Table
unkeyed name columns places = record {
  name = name;
  tree = 0;
  columns = columns;
  key = None;
  primary = places;
  uniques = places ∷ [];
  orders = record { digits = 0 } ∷ [];
  checks = [];
  references = [];
  computed = [];
  stamps = record { places = []; terms = []; formats = [] };
  is_counted = false;
}

abbrev pub shape_table : Table
shape_table = keyed (codes "shape") (column_of (codes "one") Integer false
    ∷ column_of (codes "body") Any true ∷ [])

abbrev pub tabs_table : Table
tabs_table = keyed (codes "tabs") (column_of (codes "tab") Integer false
    ∷ column_of (codes "last") Integer true ∷ [])

abbrev pub lines_table : Table
lines_table = unkeyed (codes "lines") (column_of (codes "tab") Integer true
    ∷ column_of (codes "id") Integer true ∷ column_of (codes "body") Any true ∷ []) (1 ∷ 2 ∷ [])

abbrev pub marks_table : Table
marks_table = unkeyed (codes "marks") (column_of (codes "tab") Integer true
    ∷ column_of (codes "col") Integer true ∷ column_of (codes "k") Any true
    ∷ column_of (codes "id") Integer true ∷ []) (1 ∷ 2 ∷ 3 ∷ 4 ∷ [])

-- ---- the schemas on the way, as the statements that make the tables run in this order

abbrev pub no_schema : Schema
no_schema = record { tables = []; indexes = []; views = [] }

abbrev pub one_table : Schema
one_table = created no_schema shape_table

abbrev pub two_tables : Schema
two_tables = created one_table tabs_table

abbrev pub three_tables : Schema
three_tables = created two_tables lines_table

abbrev pub kept_schema : Schema
kept_schema = created three_tables marks_table

-- ---- the trees of the tables: those of lines and of marks are followed by those of their keys

abbrev pub shape_tree : ℕ
shape_tree = 0

abbrev pub tabs_tree : ℕ
tabs_tree = 1

abbrev pub lines_tree : ℕ
lines_tree = 2

abbrev pub marks_tree : ℕ
marks_tree = 4

-- ---- the tables as they stand in the schema

abbrev pub shape_at : Table
shape_at = record shape_table { tree = 0 }

abbrev pub tabs_at : Table
tabs_at = record tabs_table { tree = 1 }

abbrev pub lines_at : Table
lines_at = record lines_table { tree = 2 }

abbrev pub marks_at : Table
marks_at = record marks_table { tree = 4 }
