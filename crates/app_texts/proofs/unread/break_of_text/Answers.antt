use Rattle.app_texts.proofs.ReadSteps.{tells_bad, tells_deep, tells_syntax}
use Rattle.app_texts.proofs.unread.break_of_text.Goals as goal

pub returns-in-Lex : goal.returns-in-Lex
returns-in-Lex c = tells_bad c.args.cell c.args.source.now c.args.end c.in-Lex.bad c.bad_token.result.now c.in-Lex.is c.bad_token.ensures c.in_text.result c.in_text.ensures

pub returns-in-Ok : goal.returns-in-Ok
returns-in-Ok c = tells_syntax c.args.cell c.args.source.now c.args.end c.in-Syntax.at c.in-Ok.detail c.in-Syntax.is c.in-Ok.ensures c.in_words.result c.in_words.ensures

pub returns-in-TooDeep : goal.returns-in-TooDeep
returns-in-TooDeep c = tells_deep c.args.cell c.args.source.now c.args.end c.in-TooDeep.at c.in-TooDeep.is c.in_text-in-TooDeep.result c.in_text-in-TooDeep.ensures
