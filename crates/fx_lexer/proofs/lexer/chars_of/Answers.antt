use Rattle.std.proofs.lemmas.Iterator.{items_from_collect, YieldsList-from_chars}
use Rattle.fx_lexer.proofs.lexer.chars_of.Goals as goal

pub returns : goal.returns
returns c = items_from_collect _ c.collect.ensures.ran (YieldsList-from_chars c.args.source.now c.utf8.source c.chars.ensures.rest)
