use Rattle.recalc.proofs.Parts.{listed_found}
use Rattle.recalc.proofs.trees.listed_part.Goals as goal

pub returns : goal.returns
returns c = listed_found c.args.parts.now c.args.place c.get.result c.get.ensures
