use Rattle.fx_lexer.proofs.Readings.{lexed_one, lexemes_one}
use Rattle.fx_lexer.proofs.laws.one_list_of_tokens.Goals as goal

pub returns : goal.returns
returns c = record { tokens = lexed_one; lexemes = lexemes_one }
