-- The columns of tables.
use Rattle.std.specs.Prelude.{ℕ, Result, Ok, Err}
use Rattle.fx_types.specs.Types.{Shape, tables, ColumnList}
use Rattle.fx_core.specs.Rules as rules

-- the columns of a table; another type is wrong there
abbrev pub table_columns : Shape → Result ColumnList ℕ
table_columns (tables cs) = Ok cs
table_columns t = Err rules.wrong_type
