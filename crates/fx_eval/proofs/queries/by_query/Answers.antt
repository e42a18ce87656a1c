use Rattle.fx_eval.proofs.Demanding.{first_met}
use Rattle.fx_eval.proofs.Queried.{first_of_scan}
use Rattle.fx_eval.proofs.queries.by_query.Goals as goal

pub returns-in_ok-rows-in-First-clause-value : goal.returns-in_ok-rows-in-First-clause-value
returns-in_ok-rows-in-First-clause-value g c = first_met _ _ _ _ _ c.in-First.is (first_of_scan _ _ _ _ _ c.in_ok-rows-in-First.ensures.value c.first_in.ensures)
