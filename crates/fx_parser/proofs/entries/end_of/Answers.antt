use Rattle.std.proofs.Common.{ap, ◌∙◌}
use Rattle.fx_grammar.specs.declared.item.Item.{Item}
use Rattle.fx_parser.proofs.Firsts.{end_last}
use Rattle.fx_parser.proofs.entries.end_of.Goals as goal

pub returns-in-len1-up : goal.returns-in-len1-up
returns-in-len1-up c = ap (λ (x : Item). x.upto) c.x-item.is ∙ end_last c.args.tokens.now c.x-item.result c.in-len1-up.len_at_least
