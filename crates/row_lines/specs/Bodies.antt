-- The bytes of rows and schemas in the database.
use Rattle.std.specs.Prelude.{ℕ, Bool, List, [], ◌∷◌, ◌++◌, encode_utf8_all, flat_map}
use Rattle.std.specs.Prelude.{if◌then◌else◌, length}
use Rattle.std.specs.Int.{to_be_bytes, w32}
use Rattle.fx_types.specs.Values.{Data}
use Rattle.fx_types.specs.declared.types.Ty.{Ty}
use Rattle.fx_types.specs.declared.types.Ty.TheVariants as ty
use Rattle.fx_core.specs.declared.schema.Column.{Column}
use Rattle.fx_core.specs.declared.schema.Schema.{Schema}
use Rattle.fx_core.specs.declared.schema.TableShape.{TableShape}
use Rattle.fx_value.specs.Keys.{key_bytes}

-- four bytes of length, and then the bytes
abbrev pub length_prefixed : List ℕ → List ℕ
length_prefixed bytes = to_be_bytes w32 (length bytes) ++ bytes

-- a line's body: the key of each cell as a piece
abbrev pub line_bytes : List Data → List ℕ
line_bytes cells = flat_map (λ d. length_prefixed (key_bytes d)) cells

abbrev pub type_byte : Ty → ℕ
type_byte ty.Number = 0
type_byte ty.Text = 1
type_byte ty.Boolean = 2
type_byte ty.Date = 3
type_byte t = 4

abbrev pub truth_byte : Bool → ℕ
truth_byte b = if b then 1 else 0

-- a column: its name, its type, and whether it is required, unique and indexed
abbrev pub column_bytes : Column → List ℕ
column_bytes c = length_prefixed (encode_utf8_all c.name)
    ++ (type_byte c.ty ∷ truth_byte c.required ∷ truth_byte c.unique ∷ truth_byte c.indexed ∷ [])

-- a table: its name, and its columns
abbrev pub table_bytes : TableShape → List ℕ
table_bytes t = length_prefixed (encode_utf8_all t.name) ++ flat_map column_bytes t.columns

-- the body of a schema: its tables
abbrev pub schema_bytes : Schema → List ℕ
schema_bytes s = flat_map (λ t. length_prefixed (table_bytes t)) s.tables
