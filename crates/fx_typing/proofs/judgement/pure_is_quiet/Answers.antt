use Rattle.fx_typing.proofs.Quiet.{whole_quiet}
use Rattle.fx_typing.proofs.judgement.pure_is_quiet.Goals as goal

pub returns : goal.returns
returns c = whole_quiet
