use Rattle.fx_value.proofs.Orders.{order_total, order_tells}
use Rattle.fx_value.proofs.ordering.compare_is_total.Goals as goal

pub returns : goal.returns
returns c = record { total = order_total; tells = order_tells }
