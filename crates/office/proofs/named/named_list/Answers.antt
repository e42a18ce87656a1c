use Rattle.session_requests.specs.recalc.Values.{value_of}
use Rattle.office.proofs.named.named_list.Goals as goal

pub returns-clause-list : goal.returns-clause-list
returns-clause-list g c = λ tables heard.
    let fresh = c.in_ok-values.ensures.fresh tables heard in
    (value_of c.in_ok-values.values, λ i f there d e need at. fresh.cells d e at, c.in_ok-name_values.ensures)
