use Rattle.std.proofs.Common.{take}
use Rattle.fx_lexer.specs.Slices.{lexemes}
use Rattle.fx_grammar.specs.Means.{AllMean}
use Rattle.fx_grammar.proofs.itemize.items.Given as goal

abbrev pub invariant-loop-token : goal.invariant-loop-token
invariant-loop-token l = AllMean (lexemes l.source (take l.token-index l.tokens)) l.found.items
