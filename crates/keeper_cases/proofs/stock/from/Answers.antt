use Rattle.keeper_cases.proofs.StockLemmas.{can_total, is_query}
use Rattle.keeper_cases.proofs.stock.from.Goals as goal

pub returns-clause-query : goal.returns-clause-query
returns-clause-query c o h = is_query o h _ c.in_ok-ranges.ranges c.args.most c.in_ok-ranges.ensures

pub returns-clause-total : goal.returns-clause-total
returns-clause-total c o h = can_total o h c.in_ok-ranges.ranges c.args.most
