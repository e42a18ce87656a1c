use Rattle.fx_infer.proofs.Places.{args_at, args_end}
use Rattle.fx_infer.proofs.node_parts.of_args.Goals as goal

pub returns-in-Some : goal.returns-in-Some
returns-in-Some c = args_at c.args.args.now c.args.place c.in-Some.part.now c.in-Some.ensures

pub returns-in-None : goal.returns-in-None
returns-in-None c = args_end c.args.args.now c.args.place c.in-None.ensures
