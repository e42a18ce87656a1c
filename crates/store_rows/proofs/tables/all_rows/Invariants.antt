use Rattle.std.proofs.Common.{◌≡◌, ◌-◌, ◌^◌, min, take}
use Rattle.std.specs.Prelude.{sum_by}
use Rattle.store_model.specs.declared.counts.RowCount.{RowCount}
use Rattle.store_rows.proofs.tables.all_rows.Given as goal

abbrev pub invariant-loop-count : goal.invariant-loop-count
invariant-loop-count l = l.sum ≡ min (sum_by (λ (n : RowCount). n.now) (take l.count-index l.counts)) (2 ^ 64 - 1)
