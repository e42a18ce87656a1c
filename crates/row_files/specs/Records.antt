-- Texts of records, as the library reads and writes them at its defaults.
use Rattle.std.specs.Prelude.{◌≡◌, ◌++◌, ℕ, false, List, Option, Some, flat_map}
use Rattle.csv.specs.Reading.{AreRecords, default_config, strip_bom}
use Rattle.csv.specs.Writing.{default_writer, fields_written, has_written, row_text, text_written}
use Rattle.csv.specs.Writing.{writer_setup}
use Rattle.csv.specs.declared.parser.State.TheVariants.{StartRecord}
use Rattle.csv.specs.declared.writer.Writer.{Writer}

-- the fields of a record, in bytes
abbrev pub Fields : Type 0
Fields = List (List ℕ)

-- these are all the records of a text, a byte order mark at its start aside
abbrev pub AreRecordsOf : List ℕ → List Fields → Type 0
AreRecordsOf bytes records = AreRecords default_config StartRecord (strip_bom bytes) records

-- the text of records, one after another
abbrev pub records_text : List Fields → List ℕ
records_text records = flat_map (row_text default_writer) records

-- a writer at the defaults stands between two records, behind these bytes
pub record HasText {W : Type 0} (contents : W → Option (List ℕ)) (w : Writer W) (bytes : List ℕ)
    : Type 0 where
  pub setup : writer_setup w ≡ default_writer
  pub fields : fields_written w ≡ 0
  pub wrote : has_written w ≡ false
  pub text : text_written contents w ≡ Some bytes

-- records were written behind what stood there
abbrev pub WritesOn : {W : Type 0} → (W → Option (List ℕ)) → Writer W → Writer W → List Fields
    → Type 0
WritesOn contents old new records = (bytes : List ℕ) → HasText contents old bytes
    → HasText contents new (bytes ++ records_text records)
