-- Of the body of a schema that schema is read.
use Rattle.std.proofs.Common.{◌≡◌, ◌∙◌, ◌<◌, ◌≤◌, ℕ, Bool, true, false, List, [], ◌∷◌, ◌++◌, append_assoc, ap, arith, chars, encode_utf8_all, drop, flat_map, length, refl, slice_index, subst, take}
use Rattle.std.proofs.lemmas.List.{length-append, take_all}
use Rattle.std.proofs.lemmas.List.Elements.{recursion_from_All}
use Rattle.std.proofs.lemmas.Str.{chars-encodes}
use Rattle.std.specs.List.{AllByRecursion}
use Rattle.fx_types.specs.declared.types.Ty.{Ty}
use Rattle.fx_types.specs.declared.types.Ty.TheVariants as ty
use Rattle.fx_core.specs.Lawful.{IsColumnType, IsLawfulSchema, IsLawfulTable}
use Rattle.fx_core.specs.declared.schema.Column.{Column}
use Rattle.fx_core.specs.declared.schema.Schema.{Schema}
use Rattle.fx_core.specs.declared.schema.TableShape.{TableShape}
use Rattle.row_lines.specs.Bodies.{column_bytes, length_prefixed, schema_bytes, table_bytes, truth_byte, type_byte}
use Rattle.row_lines.specs.FromBytes.{behind_column, behind_piece, first_column, first_piece, items_in, schema_in, table_in, truth_in, type_in}
use Rattle.row_lines.specs.Laws.{HasShortName, HasTypeByte, HasTypeBytes, HaveTypeBytes, IsShortName, IsShortTable}
use Rattle.row_lines.proofs.PieceLemmas.{behind_piece-piece, first_piece-piece, items_tell}

truth_tells : (b : Bool) → truth_in (truth_byte b) ≡ b
truth_tells true = refl
truth_tells false = refl

both : {A : Type 0} (P Q : A → Type 0) (xs : List A) → AllByRecursion P xs → AllByRecursion Q xs → AllByRecursion (λ x. P x × Q x) xs
both P Q [] p q = tt
both P Q (x ∷ xs) p q = ((p.0, q.0), both P Q xs p.1 q.1)

name_tells : (name rest : List ℕ) → IsShortName name → chars (first_piece (length_prefixed (encode_utf8_all name) ++ rest)) ≡ name
name_tells name rest h = ap chars (first_piece-piece (encode_utf8_all name) rest h.1) ∙ chars-encodes name h.0

-- ---- columns

abbrev marks_of : Column → List ℕ
marks_of c = type_byte c.ty ∷ truth_byte c.required ∷ truth_byte c.unique ∷ truth_byte c.indexed ∷ []

abbrev column_with : List ℕ → List ℕ → Column
column_with name marks = record {
  name = name;
  ty = type_in (slice_index marks 0);
  required = truth_in (slice_index marks 1);
  unique = truth_in (slice_index marks 2);
  indexed = truth_in (slice_index marks 3);
}

abbrev IsToldColumn : Column → Type 0
IsToldColumn c = HasTypeByte c × HasShortName c

name_then : (c : Column) (rest : List ℕ) → column_bytes c ++ rest ≡ length_prefixed (encode_utf8_all c.name) ++ (marks_of c ++ rest)
name_then c rest = append_assoc (length_prefixed (encode_utf8_all c.name)) (marks_of c) rest

first_column-is : (c : Column) (rest : List ℕ) → IsToldColumn c → first_column (column_bytes c ++ rest) ≡ c
first_column-is c rest h =
    let marks = marks_of c ++ rest in
    let bytes = length_prefixed (encode_utf8_all c.name) ++ marks in
    ap first_column (name_then c rest)
    ∙ ap (λ name. column_with name (behind_piece bytes)) (name_tells c.name marks h.1)
    ∙ ap (λ ms. column_with c.name ms) (behind_piece-piece (encode_utf8_all c.name) marks h.1.1)
    ∙ ap (λ t. let it : Column = record { name = c.name; ty = t; required = truth_in (truth_byte c.required); unique = truth_in (truth_byte c.unique); indexed = truth_in (truth_byte c.indexed) } in it) h.0
    ∙ ap (λ b. let it : Column = record { name = c.name; ty = c.ty; required = b; unique = truth_in (truth_byte c.unique); indexed = truth_in (truth_byte c.indexed) } in it) (truth_tells c.required)
    ∙ ap (λ b. let it : Column = record { name = c.name; ty = c.ty; required = c.required; unique = b; indexed = truth_in (truth_byte c.indexed) } in it) (truth_tells c.unique)
    ∙ ap (λ b. let it : Column = record { name = c.name; ty = c.ty; required = c.required; unique = c.unique; indexed = b } in it) (truth_tells c.indexed)

behind_column-is : (c : Column) (rest : List ℕ) → IsToldColumn c → behind_column (column_bytes c ++ rest) ≡ rest
behind_column-is c rest h =
    ap behind_column (name_then c rest) ∙ ap (λ ms. drop 4 ms) (behind_piece-piece (encode_utf8_all c.name) (marks_of c ++ rest) h.1.1)

some_column : (c : Column) → 0 < length (column_bytes c)
some_column c = omega (arith, length-append (length_prefixed (encode_utf8_all c.name)) (marks_of c))

columns_tell : (cs : List Column) → AllByRecursion IsToldColumn cs → items_in first_column behind_column (length (flat_map column_bytes cs)) (flat_map column_bytes cs) ≡ cs
columns_tell cs h = items_tell first_column behind_column column_bytes IsToldColumn first_column-is behind_column-is some_column cs (length (flat_map column_bytes cs)) h (omega arith)

-- ---- tables

abbrev table_with : List ℕ → List Column → TableShape
table_with name columns = record { name = name; columns = columns }

abbrev columns_in : List ℕ → List Column
columns_in bytes = items_in first_column behind_column (length bytes) bytes

table_tells : (t : TableShape) → HasTypeBytes t → IsShortTable t → table_in (table_bytes t) ≡ t
table_tells t k h =
    let columns = flat_map column_bytes t.columns in
    ap (λ name. table_with name (columns_in (behind_piece (table_bytes t)))) (name_tells t.name columns h.0)
    ∙ ap (λ bytes. table_with t.name (columns_in bytes)) (behind_piece-piece (encode_utf8_all t.name) columns h.0.1)
    ∙ ap (λ cs. table_with t.name cs) (columns_tell t.columns (both HasTypeByte HasShortName t.columns k h.1))

-- ---- schemas

abbrev first_table : List ℕ → TableShape
first_table bytes = table_in (first_piece bytes)

abbrev piece_of : TableShape → List ℕ
piece_of t = length_prefixed (table_bytes t)

pub schemas_tell : (s : Schema) → HaveTypeBytes s → AllByRecursion IsShortTable s.tables → schema_in (schema_bytes s) ≡ s
schemas_tell s k h =
    ap (λ ts. let it : Schema = record { tables = ts } in it)
    (items_tell first_table behind_piece piece_of (λ t. HasTypeBytes t × IsShortTable t)
    (λ t rest it. ap table_in (first_piece-piece (table_bytes t) rest it.1.2) ∙ table_tells t it.0 it.1)
    (λ t rest it. behind_piece-piece (table_bytes t) rest it.1.2)
    (λ t. omega arith)
    s.tables (length (schema_bytes s)) (both HasTypeBytes IsShortTable s.tables k h) (omega arith))

-- the same of a body that was written table by table
pub schema_tells : (s : Schema) (tables : List TableShape) (n : ℕ) (body : List ℕ) → tables ≡ s.tables → length tables ≤ n
    → body ≡ schema_bytes (record { tables = take n tables }) → AllByRecursion IsShortTable (take n tables) → HaveTypeBytes s → schema_in body ≡ s
schema_tells s tables n body e l b short types =
    let whole : take n tables ≡ s.tables = take_all n tables l ∙ e in
    ap schema_in (b ∙ ap (λ ts. schema_bytes (record { tables = ts })) whole) ∙ schemas_tell s types (subst (AllByRecursion IsShortTable) whole short)

-- ---- types

type_tells : (t : Ty) → IsColumnType t → type_in (type_byte t) ≡ t
type_tells ty.Number h = refl
type_tells ty.Text h = refl
type_tells ty.Boolean h = refl
type_tells ty.Date h = refl
type_tells _ h = absurd h

all_in : {A : Type 0} (P Q : A → Type 0) → ((x : A) → P x → Q x) → (xs : List A) → AllByRecursion P xs → AllByRecursion Q xs
all_in P Q f [] h = tt
all_in P Q f (x ∷ xs) h = (f x h.0, all_in P Q f xs h.1)

pub lawful_types : (s : Schema) → IsLawfulSchema s → HaveTypeBytes s
lawful_types s h =
    all_in IsLawfulTable HasTypeBytes
    (λ t l. all_in (λ (c : Column). IsColumnType c.ty) HasTypeByte (λ c. type_tells c.ty) t.columns (recursion_from_All (λ (c : Column). IsColumnType c.ty) t.columns l.1))
    s.tables (recursion_from_All IsLawfulTable s.tables h.2)
