use Rattle.fx_value.proofs.RowOrders.{one_order}
use Rattle.fx_tables.proofs.ordering.ordered_once.Goals as goal

pub returns : goal.returns
returns c = one_order c.compare_is_total.ensures.total
