use Rattle.std.proofs.Common.{sym, ◌∙◌}
use Rattle.fx_infer.proofs.Places.{args_in}
use Rattle.fx_infer.proofs.node_parts.args_count.Goals as goal

pub returns : goal.returns
returns c = c.len.ensures ∙ sym (args_in c.args.args.now)
