use Rattle.std.proofs.Common.{arith}
use Rattle.std.proofs.lemmas.Grind.{common_steps}
use Rattle.fx_lexer.proofs.Steps.{number_parts}
use Rattle.fx_lexer.proofs.scan.number_length.Goals as goal

pub returns-clause-value : goal.returns-clause-value
returns-clause-value c = grind (arith, common_steps, number_parts)
