use Rattle.std.proofs.Common.{◌≡◌, ◌≤◌, ◌++◌, length, take}
use Rattle.row_keeper.specs.Entries.{ids_of}
use Rattle.row_keeper.proofs.index.gather_first.Given as goal

abbrev pub invariant-loop-entry : goal.invariant-loop-entry
invariant-loop-entry l =
    (take l.most (l.found.items ++ ids_of l.entry-iterator) ≡ take l.most (l.initial.found.items ++ ids_of l.fn.range)) × (length l.found.items ≤ l.most)
