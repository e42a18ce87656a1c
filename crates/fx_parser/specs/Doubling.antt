-- What is doubled inside texts, quoted names and weaves.
use Rattle.std.specs.Prelude.{ℕ, Bool}
use Rattle.fx_lexer.specs.Spelling.{is_quote, is_mark}
use Rattle.fx_parser.specs.declared.writer.Doubling.{Doubling}
use Rattle.fx_parser.specs.declared.writer.Doubling.TheVariants as doubling

abbrev pub doubles : Doubling → ℕ → Bool
doubles doubling.Quote c = is_quote 34 c
doubles doubling.NameQuote c = is_quote 39 c
doubles doubling.Marks c = is_mark c
