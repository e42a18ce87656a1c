-- Which values fit which types.
use Rattle.std.specs.Prelude.{Bool, true, false, ◌&&◌}
use Rattle.std.specs.Str.{bytes_eq}
use Rattle.fx_types.specs.Values.{Data, blank, number, text, boolean, date, rec, tab, fault}
use Rattle.fx_types.specs.Values.{FieldList, no_fields, field, RowList, no_rows, row}
use Rattle.fx_types.specs.Types.{Shape, numbers, texts, booleans, dates, records, tables}
use Rattle.fx_types.specs.Types.{ColumnList, no_columns, column}

-- Blank and errors fit every type, and nothing else fits the type of blank. A record fits where its
-- names are exactly the columns' and each field fits, and a table where each row does.
abbrev mutual
  pub fits_in : Data → Shape → Bool
  fits_in blank t = true
  fits_in (fault k cs) t = true
  fits_in (number z) numbers = true
  fits_in (text cs) texts = true
  fits_in (boolean b) booleans = true
  fits_in (date z) dates = true
  fits_in (rec fs) (records cs) = fields_fit fs cs
  fits_in (tab rs) (tables cs) = rows_fit rs cs
  fits_in _ _ = false

  pub fields_fit : FieldList → ColumnList → Bool
  fields_fit no_fields no_columns = true
  fields_fit (field n d fs) (column m t cs) = bytes_eq n m && (fits_in d t && fields_fit fs cs)
  fields_fit _ _ = false

  pub rows_fit : RowList → ColumnList → Bool
  rows_fit no_rows cs = true
  rows_fit (row fs rs) cs = fields_fit fs cs && rows_fit rs cs
