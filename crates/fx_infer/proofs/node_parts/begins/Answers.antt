use Rattle.std.proofs.Common.{◌∙◌, ap, sym}
use Rattle.fx_typing.specs.Typing.{position}
use Rattle.fx_infer.proofs.Goes.{begins_at}
use Rattle.fx_infer.proofs.node_parts.begins.Goals as goal

pub returns : goal.returns
returns c = sym (begins_at c.whole.inside.at c.whole.inside.node) ∙ ap position c.whole.view_is
