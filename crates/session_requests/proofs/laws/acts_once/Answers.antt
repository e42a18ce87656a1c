use Rattle.fx_base.specs.Silence.{SilenceCause}
use Rattle.session_requests.proofs.Sending.{once}
use Rattle.session_requests.proofs.laws.acts_once.Goals as goal

pub returns : goal.returns
returns c = λ before now. once (SilenceCause before now)
