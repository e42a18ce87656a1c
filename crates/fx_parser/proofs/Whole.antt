-- Whole formulas.
use Rattle.std.proofs.Common.{◌≡◌, ℕ, true, false, List, length, ap, sym, eqb, ◌∙◌, Some, Err, arith}
use Rattle.std.proofs.lemmas.Bool.Decides.{nat_tests}
use Rattle.fx_core.specs.Tree.{Tree}
use Rattle.fx_grammar.specs.declared.item.Item.{Item}
use Rattle.fx_grammar.specs.declared.line.Line.TheVariants.{Chain}
use Rattle.fx_grammar.specs.Reading.{Parsed, line_at}
use Rattle.fx_grammar.specs.Formulas.{IsTreeOf, IsDeeper}
use Rattle.fx_grammar.proofs.Formula.{has_tree, deeper_none, deeper_rest}
use Rattle.fx_parser.specs.declared.descent_end.End.{End}
use Rattle.fx_parser.specs.declared.descent_end.End.TheVariants.{Refused, Memory}
use Rattle.fx_parser.specs.Answer.{ParserAnswers, body, IsTooDeep}
use Rattle.fx_parser.proofs.Firsts.{itself}

pub refused_by : (ts us : List Item) (e : End) → us ≡ body ts → ParserAnswers itself (Err e) (line_at 64 Chain us) → IsTooDeep ts e
refused_by ts us Refused p h = deeper_none 63 ts (ap (line_at 64 Chain) (sym p) ∙ h)
refused_by ts us Memory p h = tt

pub tree_by : (ts us : List Item) (s : Parsed Tree) → us ≡ body ts → line_at 64 Chain us ≡ Some s → length s.2 ≡ 0 → IsTreeOf 64 ts s.0
tree_by ts us s p e h = has_tree 64 ts s (ap (line_at 64 Chain) (sym p) ∙ e) h

pub refused_rest : (ts us : List Item) (s : Parsed Tree) → us ≡ body ts → line_at 64 Chain us ≡ Some s → (length s.2 ≡ 0 → ⊥) → IsDeeper 64 ts
refused_rest ts us s p e h = deeper_rest 63 ts s (ap (line_at 64 Chain) (sym p) ∙ e) h

pub zero_of : (n : ℕ) → true ≡ eqb n 0 → n ≡ 0
zero_of n e = let f = sym e in grind (arith, nat_tests)

pub not_zero_of : (n : ℕ) → false ≡ eqb n 0 → n ≡ 0 → ⊥
not_zero_of n e f = let g = sym e in grind (arith, nat_tests)
