use Rattle.session_requests.proofs.Outcomes.{one_outcome}
use Rattle.session_requests.proofs.laws.one_outcome.Goals as goal

pub returns : goal.returns
returns c = one_outcome (record {
  value = c.one_value.ensures;
  fresh = c.one_fresh_at.ensures;
  holds = c.fitting_holds.ensures;
  running = c.one_running.ensures;
})
