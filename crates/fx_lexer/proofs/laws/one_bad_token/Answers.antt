use Rattle.fx_lexer.proofs.Readings.{bad_one, bad_none}
use Rattle.fx_lexer.proofs.laws.one_bad_token.Goals as goal

pub returns : goal.returns
returns c = record { one = bad_one; not_both = bad_none }
