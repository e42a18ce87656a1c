use Rattle.std.proofs.Common.{◌≡◌, ◌++◌, map}
use Rattle.fx_tables.specs.declared.ordering.Keyed.{Keyed}
use Rattle.fx_tables.proofs.ordering.rows_of.Given as goal

abbrev pub invariant-loop-item : goal.invariant-loop-item
invariant-loop-item l = l.rows.items ++ map (λ (k : Keyed). k.row) l.item-iterator.rest.items ≡ map (λ (k : Keyed). k.row) l.fn.keyed.items
