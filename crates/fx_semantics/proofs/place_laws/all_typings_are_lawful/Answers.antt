use Rattle.fx_semantics.proofs.AllLawful.{all_lawful}
use Rattle.fx_semantics.proofs.place_laws.all_typings_are_lawful.Goals as goal

pub returns : goal.returns
returns c = all_lawful c.typings_are_lawful.ensures
