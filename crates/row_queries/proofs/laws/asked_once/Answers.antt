use Rattle.row_queries.proofs.Asked.{one_list}
use Rattle.row_queries.proofs.laws.asked_once.Goals as goal

pub returns : goal.returns
returns c = one_list c.compare_is_total.ensures.total
