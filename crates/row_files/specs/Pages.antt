-- Rows as a text of records.
use Rattle.std.specs.Prelude.{ℕ, List, ◌∷◌, map, encode_utf8_all}
use Rattle.fx_core.specs.declared.schema.Column.{Column}
use Rattle.field_texts.specs.Fields.{field_of}
use Rattle.row_queries.specs.declared.rows.Row.{Row}
use Rattle.row_files.specs.Records.{Fields, records_text}

-- the record of the columns' names
abbrev pub names_of : List Column → Fields
names_of columns = map (λ (c : Column). encode_utf8_all c.name) columns

-- the record of a row's cells
abbrev pub row_fields : Row → Fields
row_fields r = map field_of r.cells

-- THE page of rows: the columns' names, and a record for each row
abbrev pub page_text : List Column → List Row → List ℕ
page_text columns rows = records_text (names_of columns ∷ map row_fields rows)
