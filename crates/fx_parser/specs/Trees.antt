-- Whether tokens have a tree, and the first token at which none can go on.
use Rattle.std.specs.Prelude.{ℕ, suc, ◌<◌, ◌≤◌, List, ◌++◌, length, take}
use Rattle.fx_core.specs.Tree.{Tree}
use Rattle.fx_grammar.specs.declared.item.Item.{Item}
use Rattle.fx_grammar.specs.Grammar.{IsFormula}
use Rattle.fx_grammar.specs.Formulas.{NamedFormula, AreNamed}
use Rattle.fx_parser.specs.declared.recognize.Verdict.{Verdict}
use Rattle.fx_parser.specs.declared.recognize.Verdict.TheVariants.{HasTree, StopsAt}

-- the tokens are a formula, of some tree and of any depth
abbrev pub HasFormula : List Item → Type 0
HasFormula xs = (d : ℕ) × (t : Tree) × IsFormula xs d t

-- the tokens are named formulas, of any depth
abbrev pub HasEntries : List Item → Type 0
HasEntries xs = (d : ℕ) × (es : List NamedFormula) × AreNamed xs d es

-- The tokens are none of these, those before the place i may go on to be one, and those up to and
-- with the token at i may not, whatever follows.
pub record Stops (P : List Item → Type 0) (xs : List Item) (i : ℕ) : Type 0 where
  pub none : P xs → ⊥
  pub within : i ≤ length xs
  pub before : (us : List Item) × P (take i xs ++ us)
  pub never : i < length xs → (us : List Item) → P (take (suc i) xs ++ us) → ⊥

-- what an answer says
abbrev pub Judges : (List Item → Type 0) → List Item → Verdict → Type 0
Judges P xs HasTree = P xs
Judges P xs (StopsAt i) = Stops P xs i
