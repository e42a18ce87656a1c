use Rattle.fx_typing.proofs.Broken.{whole_broken}
use Rattle.fx_typing.proofs.judgement.broken_is_broken.Goals as goal

pub returns : goal.returns
returns c = whole_broken
