-- What a value weighs.
use Rattle.std.specs.Prelude.{ℕ, ◌+◌, List, length, encode_utf8_all}
use Rattle.fx_types.specs.Values.{Data, blank, number, text, boolean, date, rec, tab, fault}
use Rattle.fx_types.specs.Values.{FieldList, no_fields, field, RowList, no_rows, row}

-- how many bytes a text has
abbrev pub bytes_in : List ℕ → ℕ
bytes_in cs = length (encode_utf8_all cs)

-- 16 for each part, and the bytes of all texts and names
abbrev mutual
  pub weight_of : Data → ℕ
  weight_of blank = 16
  weight_of (number z) = 16
  weight_of (text cs) = 16 + bytes_in cs
  weight_of (boolean b) = 16
  weight_of (date z) = 16
  weight_of (rec fs) = 16 + fields_weight fs
  weight_of (tab rs) = 16 + rows_weight rs
  weight_of (fault k cs) = 16 + bytes_in cs

  pub fields_weight : FieldList → ℕ
  fields_weight no_fields = 0
  fields_weight (field n d fs) = bytes_in n + weight_of d + fields_weight fs

  pub rows_weight : RowList → ℕ
  rows_weight no_rows = 0
  rows_weight (row fs rs) = 16 + fields_weight fs + rows_weight rs
