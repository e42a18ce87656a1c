use Rattle.std.proofs.Common.{◌≡◌, ◌++◌, ◌+◌, map, drop, length}
use Rattle.std.specs.List.{zip}
use Rattle.fx_types.specs.ValueView.{view}
use Rattle.fx_tables.specs.Keyed.{pair_of}
use Rattle.fx_tables.proofs.ordering.beside_keys.Given as goal

abbrev pub invariant-loop-row : goal.invariant-loop-row
invariant-loop-row l = record {
  value : map pair_of l.keyed.items ++ zip (map view (drop (length l.keyed.items) l.keys)) l.row-iterator.rest.items ≡ zip (map view l.keys) l.fn.rows;
  long : length l.keyed.items + length l.row-iterator.rest.items ≡ length l.keys;
}
