use Rattle.fx_infer.proofs.Places.{fields_at, fields_end}
use Rattle.fx_infer.proofs.node_parts.of_fields.Goals as goal

pub returns-in-Some : goal.returns-in-Some
returns-in-Some c = fields_at c.args.fields.now c.args.place c.in-Some.field-0.now c.in-Some.ensures

pub returns-in-None : goal.returns-in-None
returns-in-None c = fields_end c.args.fields.now c.args.place c.in-None.ensures
