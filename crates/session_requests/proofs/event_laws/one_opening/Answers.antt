use Rattle.session_requests.proofs.SingleEvents.{one_opening}
use Rattle.session_requests.proofs.event_laws.one_opening.Goals as goal

pub returns : goal.returns
returns c = one_opening c.one_acting.ensures
