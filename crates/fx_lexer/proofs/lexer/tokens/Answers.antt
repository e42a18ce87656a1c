use Rattle.std.proofs.Common.{ℕ, List, IfErr, Result, Ok, Err, ◌∙◌}
use Rattle.std.specs.Str.{chars}
use Rattle.fx_lexer.specs.declared.token.LexEnd.{LexEnd}
use Rattle.fx_lexer.specs.declared.token.LexEnd.TheVariants.{Bad, Memory}
use Rattle.fx_lexer.specs.Lexed.{IsBadToken, HasNoTokens}
use Rattle.fx_lexer.proofs.Cuts.{texts_of, slices_of}
use Rattle.fx_lexer.proofs.Readings.{bad_none}
use Rattle.fx_lexer.proofs.lexer.tokens.Goals as goal

no_tokens : {V : Type 0} (cs : List ℕ) (r : Result V LexEnd) → IfErr r (IsBadToken cs) → IfErr r (HasNoTokens cs)
no_tokens cs (Ok v) h = h
no_tokens cs (Err (Bad bad)) h = λ ts l. bad_none cs bad ts h l
no_tokens cs (Err Memory) h = h

pub returns-clause-none : goal.returns-clause-none
returns-clause-none c = let e = c.as_slice.ensures.value in let f = c.in_ok-cs.ensures in
    no_tokens (chars c.args.source.now) _ (rw (e, f) at c.read_tokens.ensures.bad)

pub returns-clause-texts : goal.returns-clause-texts
returns-clause-texts c = texts_of (λ v. v.items) c.args.source.now _ c.read_tokens.result c.utf8.source (c.as_slice.ensures.value ∙ c.in_ok-cs.ensures) c.read_tokens.ensures.tokens

pub returns-clause-slices : goal.returns-clause-slices
returns-clause-slices c = slices_of (λ v. v.items) c.args.source.now _ c.read_tokens.result c.utf8.source (c.as_slice.ensures.value ∙ c.in_ok-cs.ensures) c.read_tokens.ensures.tokens
