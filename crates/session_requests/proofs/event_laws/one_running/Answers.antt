use Rattle.session_requests.proofs.SingleEvents.{one_running}
use Rattle.session_requests.proofs.event_laws.one_running.Goals as goal

pub returns : goal.returns
returns c = one_running c.one_acting.ensures
