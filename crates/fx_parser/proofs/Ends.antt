-- Why a text has no tree.
use Rattle.std.proofs.Common.{◌≡◌, subst, ℕ, ◌<◌, List, length, arith}
use Rattle.fx_core.specs.Tree.{Tree}
use Rattle.fx_grammar.specs.declared.item.Item.{Item}
use Rattle.fx_grammar.specs.Grammar.{IsFormula, bare, marked}
use Rattle.fx_grammar.proofs.Shapes.{shorter}
use Rattle.fx_parser.specs.declared.recognize.Verdict.{Verdict}
use Rattle.fx_parser.specs.declared.recognize.Verdict.TheVariants.{HasTree}
use Rattle.fx_parser.specs.Trees.{Judges}

pub formula_long : {xs : List Item} {d : ℕ} {t : Tree} → IsFormula xs d t → 0 < length xs
formula_long (bare ts d t p) = let h = shorter p in omega arith
formula_long (marked x ts d t e p) = omega arith

pub has_tree : (P : List Item → Type 0) (xs : List Item) (v : Verdict) → v ≡ HasTree → Judges P xs v → P xs
has_tree P xs v e j = subst (λ (w : Verdict). Judges P xs w) e j
