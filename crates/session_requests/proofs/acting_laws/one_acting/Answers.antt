use Rattle.session_requests.proofs.SingleActing.{one_acting}
use Rattle.session_requests.proofs.acting_laws.one_acting.Goals as goal

pub returns : goal.returns
returns c =
    one_acting (record {
      sums = c.sum_once.ensures;
      least = c.least_once.ensures;
      greatest = c.greatest_once.ensures;
      counts = c.count_once.ensures;
      counted = c.count_if_once.ensures;
      sorted = c.sort_once.ensures;
    }) c.one_fresh_at.ensures c.fitting_holds.ensures
