use Rattle.office.proofs.Isolation.{leaves_session}
use Rattle.office.proofs.laws.leaves_session.Goals as goal

pub returns : goal.returns
returns c = leaves_session c.leaves_others.ensures
