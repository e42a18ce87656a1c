use Rattle.std.proofs.Common.{◌≡◌, ◌++◌, drop, map, take}
use Rattle.store_model.specs.Laws.{count_at_end}
use Rattle.store_writing.proofs.ending.end_each_count.Given as goal

abbrev pub invariant-loop-count : goal.invariant-loop-count
invariant-loop-count l = l.counts ≡ map (count_at_end l.with_changes) (take l.count-index l.initial.counts) ++ drop l.count-index l.initial.counts
