use Rattle.fx_infer.proofs.Places.{behind_one}
use Rattle.fx_infer.proofs.node_parts.of_one.Goals as goal

pub returns-else-place-eq0 : goal.returns-else-place-eq0
returns-else-place-eq0 c = behind_one c.args.part.now c.args.place c.if-place-eq0.false
