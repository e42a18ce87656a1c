-- Rows and schemas out of their bytes. All bytes are read, those too that stand for no row and no
-- schema.
use Rattle.std.specs.Prelude.{ℕ, zero, suc, ◌^◌, ℤ, pos, ◌-ℤ◌, Bool, true, false, List, [], ◌∷◌}
use Rattle.std.specs.Prelude.{chars, drop, length, slice_index, take}
use Rattle.std.specs.Int.{Width, from_be_bytes, w32, w64}
use Rattle.fx_types.specs.Values.{Data, blank, number, text, boolean, date}
use Rattle.fx_types.specs.declared.types.Ty.{Ty}
use Rattle.fx_types.specs.declared.types.Ty.TheVariants as ty
use Rattle.fx_core.specs.declared.schema.Column.{Column}
use Rattle.fx_core.specs.declared.schema.Schema.{Schema}
use Rattle.fx_core.specs.declared.schema.TableShape.{TableShape}

-- the length of the piece that comes first, its bytes, and those behind it
abbrev pub first_length : List ℕ → ℕ
first_length bytes = from_be_bytes w32 (take 4 bytes)

abbrev pub first_piece : List ℕ → List ℕ
first_piece bytes = take (first_length bytes) (drop 4 bytes)

abbrev pub behind_piece : List ℕ → List ℕ
behind_piece bytes = drop (first_length bytes) (drop 4 bytes)

-- the bytes behind so many pieces, and the piece that comes first there
abbrev pub behind_pieces : ℕ → List ℕ → List ℕ
behind_pieces zero bytes = bytes
behind_pieces (suc place) bytes = behind_piece (behind_pieces place bytes)

abbrev pub piece_in : ℕ → List ℕ → List ℕ
piece_in place bytes = first_piece (behind_pieces place bytes)

abbrev pub truth_in : ℕ → Bool
truth_in zero = false
truth_in (suc b) = true

-- the number that was moved up by half of what so many bytes count
abbrev pub shifted_in : Width → ℤ → List ℕ → ℤ
shifted_in w half bytes = pos (from_be_bytes w bytes) -ℤ half

-- the value of a type whose key has these bytes behind its first one
abbrev pub scalar_in : Ty → List ℕ → Data
scalar_in ty.Number bytes = number (shifted_in w64 (pos (2 ^ 63)) bytes)
scalar_in ty.Text bytes = text (chars bytes)
scalar_in ty.Boolean bytes = boolean (truth_in (slice_index bytes 0))
scalar_in ty.Date bytes = date (shifted_in w32 (pos (2 ^ 31)) bytes)
scalar_in t bytes = blank

-- the value of a type with this key: that of blank begins with 0
abbrev pub value_in : Ty → List ℕ → Data
value_in t [] = blank
value_in t (zero ∷ bytes) = blank
value_in t (suc b ∷ bytes) = scalar_in t bytes

-- the cells of a line: a piece for each column
abbrev pub cells_in : List Column → List ℕ → List Data
cells_in [] body = []
cells_in (c ∷ cs) body = value_in c.ty (first_piece body) ∷ cells_in cs (behind_piece body)

abbrev pub type_in : ℕ → Ty
type_in zero = ty.Number
type_in (suc zero) = ty.Text
type_in (suc (suc zero)) = ty.Boolean
type_in (suc (suc (suc zero))) = ty.Date
type_in b = ty.Blank

-- the column that comes first: its name, its type, and whether it is required, unique and indexed
abbrev pub first_column : List ℕ → Column
first_column bytes = let marks = behind_piece bytes in record {
  name = chars (first_piece bytes);
  ty = type_in (slice_index marks 0);
  required = truth_in (slice_index marks 1);
  unique = truth_in (slice_index marks 2);
  indexed = truth_in (slice_index marks 3);
}

abbrev pub behind_column : List ℕ → List ℕ
behind_column bytes = drop 4 (behind_piece bytes)

-- what stands one behind the other till the bytes end, this many at most
abbrev pub items_in : {A : Type 0} → (List ℕ → A) → (List ℕ → List ℕ) → ℕ → List ℕ → List A
items_in first behind zero bytes = []
items_in first behind (suc most) [] = []
items_in first behind (suc most) (b ∷ bytes) = first (b ∷ bytes)
    ∷ items_in first behind most (behind (b ∷ bytes))

-- a table: its name, and its columns
abbrev pub table_in : List ℕ → TableShape
table_in bytes = let columns = behind_piece bytes in record {
  name = chars (first_piece bytes);
  columns = items_in first_column behind_column (length columns) columns;
}

-- the schema of a body: a piece for each table
abbrev pub schema_in : List ℕ → Schema
schema_in body = record {
  tables = items_in (λ bytes. table_in (first_piece bytes)) behind_piece
      (length body) body;
}
