use Rattle.session_requests.proofs.SingleActing.{gives_one}
use Rattle.session_requests.proofs.acting_laws.one_source_value.Goals as goal

pub returns : goal.returns
returns c = gives_one c.one_fresh_at.ensures c.fitting_holds.ensures
