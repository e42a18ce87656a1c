use Rattle.fx_grammar.proofs.Spoken.{quoted_inner, inner_scalars, quoted_back}
use Rattle.fx_grammar.proofs.itemize.unquote.Goals as goal

pub single-requires-clause-marks : goal.single-requires-clause-marks
single-requires-clause-marks c = (c.requires.quotes.0, quoted_inner c.args.marks c.args.chars.now c.requires.quotes.0 c.requires.quotes.1)

pub single-requires-clause-scalars : goal.single-requires-clause-scalars
single-requires-clause-scalars c = inner_scalars c.args.marks c.args.chars.now c.requires.quotes.0 c.requires.quotes.1 c.requires.scalars

pub returns : goal.returns
returns c = quoted_back c.single.result c.args.marks c.args.chars.now c.requires.quotes c.single.ensures
