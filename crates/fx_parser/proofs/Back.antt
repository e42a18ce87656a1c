-- What the text of a tree is parsed to.
use Rattle.std.proofs.Common.{◌≡◌, ℕ, List, map, refl, ap, ◌∙◌, subst}
use Rattle.std.specs.Str.{chars}
use Rattle.fx_lexer.specs.Lexed.{token_of}
use Rattle.fx_core.specs.Tree.{Tree}
use Rattle.fx_grammar.specs.Formulas.{HasItems, HasTree}
use Rattle.fx_grammar.proofs.Meanings.{one_items, one_tree_of}
use Rattle.fx_parser.specs.declared.end.ParseEnd.{ParseEnd}
use Rattle.fx_parser.specs.declared.end.ParseEnd.TheVariants as end
use Rattle.fx_parser.specs.Texts.{IsFormulaEnd}
use Rattle.fx_parser.specs.Trees.{HasFormula}
use Rattle.fx_parser.specs.Printing.{shown}
use Rattle.fx_parser.specs.SameTree.{unplaced, HasTreeLike}
use Rattle.fx_parser.specs.declared.reading_back.ReadBackEnd.TheVariants.{Parse}
use Rattle.fx_parser.specs.ReadBack.{MayEnd}

pub same_tree : (n : ℕ) (cs : List ℕ) (t u : Tree) → HasTreeLike cs t → HasTree n cs u → unplaced u ≡ unplaced t
same_tree n cs t u h p = ap unplaced (one_tree_of cs n h.0 u h.1 p h.3) ∙ h.2

pub may_end : (source : List ℕ) (t : Tree) (e : ParseEnd) → chars source ≡ shown t → HasTreeLike (chars source) t → IsFormulaEnd source e → MayEnd t (Parse e)
may_end source t (end.Lex bad) f h p =
    let i = h.3.1 in
    p.1 (map token_of i.0) (i.0, i.1, refl)
may_end source t (end.Syntax at) f h p =
    let x = h.3 in
    let e = one_items (chars source) x.0 p.0 x.1 p.1 in
    let i : HasFormula x.0 = (x.2.0, h.1, x.2.2) in
    p.2.stops.none (subst HasFormula e i)
may_end source t (end.TooDeep at) f h p = (p.0, subst (λ cs. HasItems cs p.0) f p.1, p.2.deeper)
may_end source t end.Memory f h p = tt
