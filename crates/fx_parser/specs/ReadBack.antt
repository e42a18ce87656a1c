-- Why the text of a formula that a parse gave may be refused.
use Rattle.std.specs.Prelude.{◌^◌, ◌≤◌, List, length, encode_utf8_all}
use Rattle.fx_core.specs.Tree.{Tree}
use Rattle.fx_grammar.specs.declared.item.Item.{Item}
use Rattle.fx_grammar.specs.Formulas.{HasItems, IsDeeper}
use Rattle.fx_parser.specs.declared.end.ParseEnd.TheVariants as end
use Rattle.fx_parser.specs.Printing.{shown}
use Rattle.fx_parser.specs.declared.reading_back.ReadBackEnd.{ReadBackEnd}
use Rattle.fx_parser.specs.declared.reading_back.ReadBackEnd.TheVariants.{TooLong, Parse}

-- too long, too deep, or for want of memory
abbrev pub MayEnd : Tree → ReadBackEnd → Type 0
MayEnd t TooLong = 2 ^ 32 ≤ length (encode_utf8_all (shown t))
MayEnd t (Parse (end.Lex bad)) = ⊥
MayEnd t (Parse (end.Syntax at)) = ⊥
MayEnd t (Parse (end.TooDeep at)) = (xs : List Item) × HasItems (shown t) xs × IsDeeper 64 xs
MayEnd t (Parse end.Memory) = Unit {0}
