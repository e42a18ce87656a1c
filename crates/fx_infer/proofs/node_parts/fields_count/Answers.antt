use Rattle.std.proofs.Common.{sym, ◌∙◌}
use Rattle.fx_infer.proofs.Places.{fields_in}
use Rattle.fx_infer.proofs.node_parts.fields_count.Goals as goal

pub returns : goal.returns
returns c = c.len.ensures ∙ sym (fields_in c.args.fields.now)
