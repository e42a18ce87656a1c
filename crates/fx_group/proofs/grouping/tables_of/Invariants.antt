use Rattle.std.proofs.Common.{◌≡◌, ◌++◌, map}
use Rattle.fx_types.specs.ValueView.{view}
use Rattle.fx_tables.specs.ColumnCalls.{without_columns}
use Rattle.fx_tables.specs.TableRows.{table_of}
use Rattle.fx_group.specs.Buckets.{items_of}
use Rattle.fx_group.proofs.grouping.tables_of.Given as goal

abbrev pub invariant-loop-rows : goal.invariant-loop-rows
invariant-loop-rows l =
    map view l.tables.items ++ map (λ g. table_of (without_columns l.keys g)) (items_of l.rows-iterator.rest.items)
    ≡ map (λ g. table_of (without_columns l.keys g)) (items_of l.fn.groups.items)
