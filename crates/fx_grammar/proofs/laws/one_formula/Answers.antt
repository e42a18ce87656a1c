use Rattle.fx_grammar.proofs.Formula.{one_tree}
use Rattle.fx_grammar.proofs.laws.one_formula.Goals as goal

pub returns : goal.returns
returns c = λ ts d e t u p q. one_tree ts d e t u p q
