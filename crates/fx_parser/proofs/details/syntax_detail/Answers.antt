use Rattle.std.proofs.Common.{ap, ◌∙◌, subst}
use Rattle.std.specs.Str.{chars}
use Rattle.fx_lexer.specs.declared.token.LexEnd.{LexEnd}
use Rattle.fx_lexer.specs.Lexed.{HasNoTokens}
use Rattle.fx_parser.specs.Details.{token_at}
use Rattle.fx_parser.proofs.Tokens.{slice_at, told_all, told_none}
use Rattle.fx_parser.proofs.details.syntax_detail.Goals as goal

pub token_detail-requires : goal.token_detail-requires
token_detail-requires c = slice_at c.args.source.now c.args.at c.in-Ok.found.items c.token_at.result c.utf8.source c.in-Ok.ensures.tokens (c.token_at.ensures ∙ ap (token_at c.args.at) c.as_slice.ensures.value)

pub returns-in-Ok : goal.returns-in-Ok
returns-in-Ok c = told_all c.token_detail.result c.args.source.now c.args.at c.in-Ok.found.items c.token_at.result c.token_detail.ensures c.in-Ok.ensures.tokens (c.token_at.ensures ∙ ap (token_at c.args.at) c.as_slice.ensures.value)

pub returns-in-Err-Bad : goal.returns-in-Err-Bad
returns-in-Err-Bad c = told_none c.token_detail-in-Err-Bad.result c.args.source.now c.args.at (subst (λ (e : LexEnd). HasNoTokens (chars c.args.source.now) e) c.in-Err-Bad.field-0-is c.in-Err-Bad.ensures.none)
