use Rattle.std.proofs.Common.{List, sym, subst}
use Rattle.std.specs.Str.{chars}
use Rattle.fx_lexer.specs.declared.token.Token.{Token as Tok}
use Rattle.fx_lexer.specs.Lexed.{Lexed}
use Rattle.fx_parser.proofs.Cuts.{cuts_of}
use Rattle.fx_parser.proofs.refusal.items_of.Goals as goal

pub returns-in_ok-items-in-Ok-clause-cuts : goal.returns-in_ok-items-in-Ok-clause-cuts
returns-in_ok-items-in-Ok-clause-cuts c = cuts_of c.args.source.now c.as_slice.result.now c.in_ok-items-in-Ok.field-0.items c.utf8.source (subst (λ (ts : List Tok). Lexed (chars c.args.source.now) ts) (sym c.as_slice.ensures.value) c.in-Ok.ensures.tokens) c.in_ok-items-in-Ok.ensures.means
