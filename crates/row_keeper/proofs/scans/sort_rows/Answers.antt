use Rattle.std.proofs.Common.{rules}
use Rattle.std.specs.Ordering.{is_lt}
use Rattle.std.proofs.lemmas.Fn.{always_returns_same}
use Rattle.std.proofs.lemmas.List.Sorted.{ranks_by}
use Rattle.row_queries.specs.Queries.{row_order}
use Rattle.row_queries.specs.declared.rows.Row.{Row}
use Rattle.row_queries.proofs.Asked.{row_total}
use Rattle.row_keeper.proofs.scans.sort_rows.Goals as goal

pub returns-clause-sorted : goal.returns-clause-sorted
returns-clause-sorted c =
    c.in_ok-sort_by.ensures.sorted (λ a b. is_lt (row_order c.args.by a b)) (ranks_by (row_total c.compare_is_total.ensures.total c.args.by) (λ (r : Row). r))
    (always_returns_same _ _ _ (λ a r f' t. search rules))
