use Rattle.std.proofs.Common.{subst}
use Rattle.std.specs.List.Sorted.{IsPermutation}
use Rattle.store_reading.proofs.arranging.arrange.Goals as goal

pub returns : goal.returns
returns c = record { rearranged = subst (λ l. IsPermutation l c.sort_rows.new.rows.items) c.in_ok-asked.ensures c.in_ok-sort_rows.ensures.permutation; sorted = c.in_ok-sort_rows.ensures.sorted }
