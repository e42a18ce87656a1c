-- A new column of a table.
use Rattle.std.specs.Prelude.{ℕ, List, map}
use Rattle.fx_types.specs.Values.{Data}
use Rattle.fx_types.specs.ValueView.{view}
use Rattle.fx_tables.specs.declared.column_calls.NewColumn.{NewColumn}
use Rattle.fx_tables.specs.declared.column_calls.Renaming.{Renaming}

-- its name, and its value for each row
abbrev pub column_seen : NewColumn → List ℕ × List Data
column_seen c = (c.name, map view c.values.items)

-- the name that a column has, and the one that it gets
abbrev pub renaming_seen : Renaming → List ℕ × List ℕ
renaming_seen r = (r.from, r.to)
