-- Batches: what the records of a text say for a table, or the first rule that they break.
use Rattle.std.specs.Prelude.{◌≡◌, ℕ, suc, ◌+◌, ◌-◌, ◌==◌, ◌&&◌, Bool, true, false, not, nat_lt}
use Rattle.std.specs.Prelude.{cond, is_some}
use Rattle.std.specs.Prelude.{List, [], ◌∷◌, ◌++◌, length, map, bytes_eq, Option, Some, None}
use Rattle.std.specs.Prelude.{option_and_then, option_map, unwrap_or, slice_get, Result, Ok, Err}
use Rattle.std.specs.List.{list_any, position}
use Rattle.std.specs.Ordering.{is_eq}
use Rattle.fx_types.specs.TypeView.{shape}
use Rattle.fx_types.specs.Values.{Data, blank}
use Rattle.fx_types.specs.Words.{scalars_of}
use Rattle.fx_core.specs.declared.schema.Column.{Column}
use Rattle.fx_value.specs.Order.{order}
use Rattle.field_texts.specs.Fields.{value_of}
use Rattle.row_queries.specs.TableRows.{value_at}
use Rattle.row_files.specs.Ends.{and_then, unless, IfRefused}
use Rattle.row_files.specs.Records.{AreRecordsOf, Fields}
use Rattle.row_files.specs.declared.batches.Batch.{Batch}
use Rattle.row_files.specs.declared.ends.BatchEnd.{BatchEnd}
use Rattle.row_files.specs.declared.ends.BatchEnd.TheVariants.{Refused}
use Rattle.row_files.specs.declared.ends.ImportRule.{ImportRule}
use Rattle.row_files.specs.declared.ends.ImportRule.TheVariants as rule

-- ---- columns by their numbers, from 1

abbrev pub column_at : List Column → ℕ → Option Column
column_at columns k = slice_get columns (k - 1)

-- the name of the column of a number
abbrev pub name_at : List Column → ℕ → List ℕ
name_at columns k = unwrap_or (option_map (λ (c : Column). c.name) (column_at columns k)) []

-- the number of the column of a name
abbrev pub number_of : List ℕ → List Column → Option ℕ
number_of name columns = option_map suc (position (λ (c : Column). bytes_eq c.name name) columns)

-- the number, where it is one of a unique column
abbrev pub if_unique : ℕ → Option Column → Option ℕ
if_unique k None = None
if_unique k (Some c) = cond c.unique (Some k) None

-- the number of the unique column of a name
abbrev pub key_named : List ℕ → List Column → Option ℕ
key_named name columns = option_and_then (λ k. if_unique k (column_at columns k))
    (number_of name columns)

-- ---- the header

abbrev pub is_among : List ℕ → List (List ℕ) → Bool
is_among name names = list_any (λ other. bytes_eq other name) names

-- the first name that no column has, or that stands before; `ID` is no column's
abbrev pub bad_name : List Column → List (List ℕ) → List (List ℕ) → Option (List ℕ)
bad_name columns before [] = None
bad_name columns before (n ∷ ns) = cond (is_some (number_of n columns) && not (is_among n before))
    (bad_name columns (before ++ n ∷ []) ns) (Some n)

-- the name of the key's column, where it isn't among these
abbrev pub lacking_key : Option Column → List (List ℕ) → Option (List ℕ)
lacking_key None names = Some []
lacking_key (Some c) names = cond (is_among c.name names) None (Some c.name)

-- a name for which a header is refused
abbrev pub refused_name : Option (List ℕ) → Option BatchEnd
refused_name o = option_map (λ n. Refused 0 n rule.Header) o

-- the numbers of the columns that a header names
abbrev pub numbers_of : List Column → List (List ℕ) → List ℕ
numbers_of columns names = map (λ n. unwrap_or (number_of n columns) 0) names

-- THE columns of the names of a header, for this key
abbrev pub header_of : List Column → ℕ → List (List ℕ) → Result (List ℕ) BatchEnd
header_of columns key names = unless (refused_name (bad_name columns [] names))
    (unless (refused_name (lacking_key (column_at columns key) names))
    (Ok (numbers_of columns names)))

-- ---- how many fields and records there are

-- the first record after the header that hasn't so many fields
abbrev pub length_refusal : ℕ → List Fields → Option BatchEnd
length_refusal width records = option_map (λ i. Refused (i + 1) [] rule.Csv)
    (position (λ (r : Fields). not (length r == width)) records)

-- the most records after a header
abbrev pub most_lines : ℕ
most_lines = 1000

abbrev pub count_refusal : ℕ → Option BatchEnd
count_refusal count = cond (nat_lt most_lines count) (Some (Refused 1001 [] rule.Long)) None

-- ---- lines

-- the value that a field spells in a column, in the record of this number
abbrev pub cell_of : Option Column → ℕ → List ℕ → Result Data BatchEnd
cell_of None at field = Err (Refused at [] rule.Kind)
cell_of (Some c) at field = unwrap_or (option_map Ok (value_of (shape c.ty) field))
    (Err (Refused at c.name rule.Kind))

-- the values of a record in the columns of these numbers, or the first field that spells none
abbrev pub cells_of : List Column → ℕ → List ℕ → Fields → Result (List Data) BatchEnd
cells_of columns at (k ∷ ks) (f ∷ fs) = and_then (cell_of (column_at columns k) at f)
    (λ d. and_then (cells_of columns at ks fs) (λ ds. Ok (d ∷ ds)))
cells_of columns at ks fs = Ok []

-- where the key stands among columns
abbrev pub key_place : ℕ → List ℕ → ℕ
key_place key numbers = unwrap_or (position (λ k. k == key) numbers) 0

abbrev pub has_key : ℕ → Data → List Data → Bool
has_key place d line = is_eq (order (value_at line place) d)

abbrev pub is_blank : Data → Bool
is_blank blank = true
is_blank d = false

-- the key of a line is blank, or a line before has it
abbrev pub key_rule : ℕ → List (List Data) → Data → Option ImportRule
key_rule place before d = cond (is_blank d) (Some rule.Blank)
    (cond (list_any (has_key place d) before) (Some rule.Twice) None)

-- why a line is refused for its key, in the record of this number
abbrev pub key_refusal : List Column → ℕ → List ℕ → ℕ → List (List Data) → List Data
    → Option BatchEnd
key_refusal columns key numbers at before line =
    let place = key_place key numbers in
    option_map (Refused at (name_at columns key)) (key_rule place before (value_at line place))

-- a record as a line, behind these lines
abbrev pub line_of : List Column → ℕ → List ℕ → List (List Data) → Fields
    → Result (List Data) BatchEnd
line_of columns key numbers before fields =
    let at = length before + 1 in
    and_then (cells_of columns at numbers fields)
    (λ line. unless (key_refusal columns key numbers at before line) (Ok line))

-- records as lines, behind these lines
abbrev pub lines_of : List Column → ℕ → List ℕ → List (List Data) → List Fields
    → Result (List (List Data)) BatchEnd
lines_of columns key numbers before [] = Ok before
lines_of columns key numbers before (r ∷ rs) = and_then (line_of columns key numbers before r)
    (λ line. lines_of columns key numbers (before ++ line ∷ []) rs)

-- ---- the batch

-- lines in the columns of these numbers
abbrev pub batch_with : List ℕ → List (List Data) → Result Batch BatchEnd
batch_with numbers lines = Ok (record { columns = numbers; lines = lines })

-- the records after a header of these columns
abbrev pub batch_in : List Column → ℕ → List Fields → List ℕ → Result Batch BatchEnd
batch_in columns key records numbers = unless (count_refusal (length records))
    (and_then (lines_of columns key numbers [] records) (batch_with numbers))

-- THE batch of the records of a text, for this key: the rules in their order
abbrev pub batch_of : List Column → ℕ → List Fields → Result Batch BatchEnd
batch_of columns key [] = Err (Refused 0 [] rule.Header)
batch_of columns key (names ∷ records) = unless (length_refusal (length names) records)
    (and_then (header_of columns key (map scalars_of names)) (batch_in columns key records))

-- this is the batch of the records of a text
abbrev pub IsBatchOf : List Column → ℕ → List ℕ → Result Batch BatchEnd → Type 0
IsBatchOf columns key bytes v = (records : List Fields) × AreRecordsOf bytes records
    × (batch_of columns key records ≡ v)

-- an answer is the batch of a text, or why it has none, and no other; want of memory may stand in
-- the place of each, and says nothing of the text
abbrev pub GivesBatch : List Column → ℕ → List ℕ → Result Batch BatchEnd → Type 0
GivesBatch columns key bytes (Ok b) = IsBatchOf columns key bytes (Ok b)
GivesBatch columns key bytes (Err e) = IfRefused e (λ r. IsBatchOf columns key bytes (Err r))
