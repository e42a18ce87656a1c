use Rattle.std.proofs.Common.{map, refl, subst}
use Rattle.std.specs.Str.{chars}
use Rattle.fx_lexer.specs.Lexed.{HasNoTokens, token_of}
use Rattle.app_texts.proofs.reading.first_token.Goals as goal

pub unreachable-requires : goal.unreachable-requires
unreachable-requires c =
    let none = subst (HasNoTokens (chars c.args.source.now)) c.in-Err-Bad.field-0-is c.in-Err-Bad.ensures.none in
    let items = c.requires.tree.1.1 in
    none (map token_of items.0) (items.0, items.1, refl)
