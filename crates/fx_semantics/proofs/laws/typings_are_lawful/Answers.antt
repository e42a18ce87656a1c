use Rattle.fx_semantics.proofs.Lawful.{typings_lawful}
use Rattle.fx_semantics.proofs.laws.typings_are_lawful.Goals as goal

pub returns : goal.returns
returns c = typings_lawful
