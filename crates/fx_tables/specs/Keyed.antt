-- A row beside its key.
use Rattle.fx_types.specs.Values.{Data}
use Rattle.fx_types.specs.ValueView.{view}
use Rattle.fx_value.specs.Columns.{Row}
use Rattle.fx_tables.specs.declared.ordering.Keyed.{Keyed}

-- the key, and the row
abbrev pub pair_of : Keyed → Data × Row
pair_of k = (view k.key.now, k.row)
