-- What was written is what is read again.
use Rattle.std.specs.Prelude.{◌≡◌, ℕ, ◌^◌, ◌<◌, true, List, encode_utf8_all, length}
use Rattle.std.specs.List.{AllByRecursion}
use Rattle.std.specs.Str.{all_scalars}
use Rattle.fx_types.specs.Values.{Data}
use Rattle.fx_core.specs.declared.schema.Column.{Column}
use Rattle.fx_core.specs.declared.schema.Schema.{Schema}
use Rattle.fx_core.specs.declared.schema.TableShape.{TableShape}
use Rattle.fx_core.specs.Lawful.{IsLawfulSchema}
use Rattle.fx_value.specs.Keys.{IsProper, key_bytes}
use Rattle.row_queries.specs.TableRows.{AreCellsOf, value_at}
use Rattle.row_lines.specs.Bodies.{line_bytes, schema_bytes, table_bytes, type_byte}
use Rattle.row_lines.specs.FromBytes.{cells_in, piece_in, schema_in, type_in}

-- bytes whose length four bytes say
abbrev pub IsShort : List ℕ → Type 0
IsShort bytes = length bytes < 2 ^ 32

abbrev pub HasShortKey : Data → Type 0
HasShortKey d = IsShort (key_bytes d)

-- of the line of a row its cells are read
abbrev pub LinesTell : Type 0
LinesTell = (columns : List Column) (cells : List Data) → AreCellsOf columns cells
    → AllByRecursion IsProper cells → AllByRecursion HasShortKey cells
    → cells_in columns (line_bytes cells) ≡ cells

-- the key of each cell is the piece at its place
abbrev pub PiecesTell : Type 0
PiecesTell = (cells : List Data) (place : ℕ) → AllByRecursion HasShortKey cells
    → place < length cells → piece_in place (line_bytes cells) ≡ key_bytes (value_at cells place)

abbrev pub IsShortName : List ℕ → Type 0
IsShortName name = (all_scalars name ≡ true) × IsShort (encode_utf8_all name)

abbrev pub HasShortName : Column → Type 0
HasShortName c = IsShortName c.name

-- a table whose pieces are short
abbrev pub IsShortTable : TableShape → Type 0
IsShortTable t = IsShortName t.name × AllByRecursion HasShortName t.columns
    × IsShort (table_bytes t)

-- the type is one that a byte stands for
abbrev pub HasTypeByte : Column → Type 0
HasTypeByte c = type_in (type_byte c.ty) ≡ c.ty

abbrev pub HasTypeBytes : TableShape → Type 0
HasTypeBytes t = AllByRecursion HasTypeByte t.columns

abbrev pub HaveTypeBytes : Schema → Type 0
HaveTypeBytes s = AllByRecursion HasTypeBytes s.tables

-- of the body of a schema that schema is read
abbrev pub SchemasTell : Type 0
SchemasTell = (s : Schema) → HaveTypeBytes s → AllByRecursion IsShortTable s.tables
    → schema_in (schema_bytes s) ≡ s

-- and lawful schemas have no other types
abbrev pub LawfulSchemasHaveTypeBytes : Type 0
LawfulSchemasHaveTypeBytes = (s : Schema) → IsLawfulSchema s → HaveTypeBytes s
