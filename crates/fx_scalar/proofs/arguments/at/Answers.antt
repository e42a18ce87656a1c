use Rattle.fx_scalar.proofs.ArgumentLemmas.{at_given}
use Rattle.fx_scalar.proofs.arguments.at.Goals as goal

pub returns : goal.returns
returns c = at_given c.args.args.now c.args.place c.get.result c.get.ensures.lookup
