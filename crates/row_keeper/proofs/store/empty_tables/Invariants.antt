use Rattle.std.proofs.Common.{◌≡◌, map, take}
use Rattle.row_keeper.specs.Kept.{empty_table}
use Rattle.row_keeper.proofs.store.empty_tables.Given as goal

abbrev pub invariant-loop-shape : goal.invariant-loop-shape
invariant-loop-shape l = l.tables.items ≡ map empty_table (take l.shape-index l.shapes)
