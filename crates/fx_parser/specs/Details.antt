-- What is said of a text that is no formula.
use Rattle.std.specs.Prelude.{ℕ, List, [], ◌∷◌, ◌++◌, Option, Some, None, codes, slice_range, ◌==◌}
use Rattle.std.specs.Prelude.{if◌then◌else◌}
use Rattle.std.specs.Str.{chars}
use Rattle.fx_lexer.specs.declared.token.Token.{Token}
use Rattle.fx_lexer.specs.declared.token.LexWhat.{LexWhat}
use Rattle.fx_lexer.specs.declared.token.LexWhat.TheVariants as what

-- what is wrong with a bad token
abbrev pub bad_token_words : LexWhat → List ℕ
bad_token_words what.Number = codes "number"
bad_token_words what.TextNotEnded = codes "text not ended"
bad_token_words what.NameNotEnded = codes "name not ended"
bad_token_words what.CommentNotEnded = codes "comment not ended"
bad_token_words what.Character = codes "character"

-- the token that begins at this byte
abbrev pub token_at : ℕ → List Token → Option Token
token_at at [] = None
token_at at (t ∷ ts) = if t.at == at then Some t else token_at at ts

-- what is said of a token, which is a slice of the source, or of the end
abbrev pub unexpected_by : List ℕ → Option Token → List ℕ
unexpected_by source None = chars (codes "unexpected end")
unexpected_by source (Some t) = chars (codes "unexpected " ++ slice_range source t.at t.upto)

-- what is said of the token that begins at this byte, or of the end where none does
abbrev pub unexpected_words : List ℕ → ℕ → List Token → List ℕ
unexpected_words source at ts = unexpected_by source (token_at at ts)
