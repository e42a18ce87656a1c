-- The fewest brackets with which a tree can be written.
use Rattle.std.specs.Prelude.{◌≡◌, ℕ, ◌+◌, ◌≤◌, List, [], ◌∷◌}
use Rattle.fx_lexer.specs.declared.token.Symbol.TheVariants as symbol
use Rattle.fx_core.specs.Tree.{Tree}
use Rattle.fx_grammar.specs.declared.item.Item.{Item}
use Rattle.fx_grammar.specs.declared.item.Meaning.{Meaning}
use Rattle.fx_grammar.specs.declared.item.Meaning.TheVariants as m
use Rattle.fx_grammar.specs.Formulas.{HasItems, IsTreeOf}
use Rattle.fx_parser.specs.SameTree.{unplaced}

-- what tokens count, where each `(` counts b and each `,` counts c
abbrev pub token_weight : ℕ → ℕ → Meaning → ℕ
token_weight b c (m.Symbol symbol.OpenParen) = b
token_weight b c (m.Symbol symbol.Comma) = c
token_weight b c _ = 0

abbrev pub tokens_weight : ℕ → ℕ → List Item → ℕ
tokens_weight b c [] = 0
tokens_weight b c (x ∷ us) = token_weight b c x.meaning + tokens_weight b c us

-- how many of the tokens are `(`
abbrev pub brackets : List Item → ℕ
brackets xs = tokens_weight 1 0 xs

-- how many of the tokens are `,`
abbrev pub comma_count : List Item → ℕ
comma_count xs = tokens_weight 0 1 xs

-- these are the tokens of a text, and they are a formula of this tree, of any depth and up to
-- positions
abbrev pub AreTokensOf : List ℕ → List Item → Tree → Type 0
AreTokensOf cs xs t = HasItems cs xs × (n : ℕ) × (u : Tree) × (unplaced u ≡ unplaced t)
    × IsTreeOf n xs u

-- No text of the tree has fewer commas, and none that has no more commas has fewer opening
-- brackets. Conditions that are joined by `And(..)` or `Or(..)` in place of `&&` or `||` have a
-- comma more for each further one.
abbrev pub HasFewest : List ℕ → Tree → Type 0
HasFewest cs t = (xs : List Item) × AreTokensOf cs xs t
    × ((ds : List ℕ) (ys : List Item) → AreTokensOf ds ys t
    → (comma_count xs ≤ comma_count ys) × (comma_count ys ≤ comma_count xs
    → brackets xs ≤ brackets ys))
