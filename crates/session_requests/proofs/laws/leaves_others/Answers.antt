use Rattle.fx_base.specs.Silence.{SilenceCause}
use Rattle.session_requests.proofs.Sending.{others_left}
use Rattle.session_requests.proofs.laws.leaves_others.Goals as goal

pub returns : goal.returns
returns c = λ before now. others_left (SilenceCause before now)
