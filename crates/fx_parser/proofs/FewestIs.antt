-- The text of a tree has the fewest commas and brackets.
use Rattle.std.proofs.Common.{◌≡◌, ℕ, List, [], refl, ap, sym, ◌∙◌, arith}
use Rattle.fx_lexer.specs.declared.token.Symbol.TheVariants as symbol
use Rattle.fx_core.specs.Tree.{Tree}
use Rattle.fx_grammar.specs.declared.item.Item.{Item}
use Rattle.fx_grammar.specs.declared.item.Meaning.TheVariants as m
use Rattle.fx_grammar.specs.declared.line.Line.TheVariants.{Chain}
use Rattle.fx_grammar.specs.Grammar.{IsFormula, bare, marked}
use Rattle.fx_grammar.specs.Formulas.{HasTree}
use Rattle.fx_parser.specs.Printing.{shown}
use Rattle.fx_parser.specs.SameTree.{unplaced}
use Rattle.fx_parser.specs.Fewest.{HasFewest}
use Rattle.fx_parser.proofs.Weights.{weight, cost}
use Rattle.fx_parser.proofs.Least.{Least, least, led, is}
use Rattle.fx_parser.proofs.Says.{shown_is, proper_of}
use Rattle.fx_parser.proofs.Unplaced.{weight_unplaced}

formula_least : {xs : List Item} {d : ℕ} {t : Tree} → IsFormula xs d t → Least (λ b c. cost b c Chain t) xs []
formula_least (bare ts d t p) = least p
formula_least (marked x ts d t e p) = led ts [] x (is x (m.Symbol symbol.Equal) e (λ b c. refl)) (least p) (λ b c. omega arith)

same_weight : (b c : ℕ) (t u : Tree) → unplaced u ≡ unplaced t → weight b c u ≡ weight b c t
same_weight b c t u e = sym (weight_unplaced b c u) ∙ ap (weight b c) e ∙ weight_unplaced b c t

pub fewest : (n : ℕ) (cs : List ℕ) (t : Tree) → HasTree n cs t → HasFewest (shown t) t
fewest n cs t h =
    let x = shown_is t (proper_of n cs t h) in (
      x.items,
      x.tokens,
      λ ds ys k.
          let u = k.2 in
          let p = formula_least k.4.2 in
          let a = x.counted 0 1 in
          let b = x.counted 1 0 in
          let c = same_weight 0 1 t u k.3 in
          let d = same_weight 1 0 t u k.3 in
          let e = p.commas in
          (omega (arith, a, c, e), λ i. let o = p.opens (omega (arith, a, c, i)) in omega (arith, b, d, o)),
    )
