use Rattle.fx_lexer.proofs.Steps.{letter_at}
use Rattle.fx_lexer.proofs.scan.in_formula.Goals as goal

pub returns-in-Letter : goal.returns-in-Letter
returns-in-Letter c = letter_at _ _ _ _ c.in-len1-up.len_at_least c.c-item.is c.run_length.ensures.value c.in-Letter.ensures c.name_of.ensures
