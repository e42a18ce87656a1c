use Rattle.std.proofs.Common.{subst, sym}
use Rattle.row_queries.specs.Queries.{IsQuery}
use Rattle.row_queries.specs.Conditions.{Condition}
use Rattle.row_keeper.specs.Tables.{shapes_of}
use Rattle.keeper_cases.proofs.StockLemmas.{is_page, page_from}
use Rattle.keeper_cases.proofs.stock.page.Goals as goal

pub returns : goal.returns
returns c o h =
    subst (λ (t : Condition). IsQuery (shapes_of o) (page_from c.in_ok-ranges.ranges c.args.most t)) (sym c.test_of.ensures)
    (is_page o h _ c.in_ok-ranges.ranges c.args.most c.args.is_blank c.in_ok-ranges.ensures)
