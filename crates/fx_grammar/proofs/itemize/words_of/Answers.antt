use Rattle.std.proofs.Common.{◌∙◌}
use Rattle.fx_grammar.proofs.Spoken.{words_are}
use Rattle.fx_grammar.proofs.itemize.words_of.Goals as goal

pub returns : goal.returns
returns c = words_are c.of.result c.as_str.result.now c.args.chars.now c.of.ensures (c.as_str.ensures.value ∙ c.in_ok-text.ensures) c.requires
