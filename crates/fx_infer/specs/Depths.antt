-- What holds of the depth of each tree that a text has.
use Rattle.std.specs.Prelude.{ℕ, ◌≤◌, List, All}
use Rattle.fx_core.specs.Tree.{Tree}
use Rattle.fx_grammar.specs.declared.item.Item.{Item}
use Rattle.fx_grammar.specs.Formulas.{NamedFormula, AreEntriesOf, HasTree}
use Rattle.fx_infer.specs.Below.{tree_depth}

-- the tree of a formula of so many levels
abbrev pub TreesAreNoDeeper : Type 0
TreesAreNoDeeper = (n : ℕ) (cs : List ℕ) (t : Tree) → HasTree n cs t → tree_depth t ≤ n

-- and those of named formulas
abbrev pub EntriesAreNoDeeper : Type 0
EntriesAreNoDeeper = (n : ℕ) (xs : List Item) (es : List NamedFormula) → AreEntriesOf n xs es
    → All (λ (e : NamedFormula). tree_depth e.tree ≤ n) es
