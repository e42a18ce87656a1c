-- Whole formulas, alone and named.
use Rattle.std.specs.Prelude.{◌≡◌, ℕ, ◌≤◌, ◌<◌, max, List, [], ◌∷◌, ◌++◌}
use Rattle.fx_lexer.specs.declared.token.Symbol.TheVariants as symbol
use Rattle.fx_lexer.specs.Lexed.{Lexeme, HasLexemes}
use Rattle.fx_core.specs.Tree.{Tree}
use Rattle.fx_grammar.specs.declared.item.Item.{Item}
use Rattle.fx_grammar.specs.declared.item.Meaning.TheVariants as m
use Rattle.fx_grammar.specs.declared.line.Join.TheVariants as join
use Rattle.fx_grammar.specs.declared.line.Line.TheVariants.{Several}
use Rattle.fx_grammar.specs.Grammar.{first_byte, Parses, IsFormula}
use Rattle.fx_grammar.specs.Means.{AllMean}

-- where the last of these tokens ends
abbrev pub end : List Item → ℕ
end [] = 0
end (x ∷ []) = x.upto
end (x ∷ y ∷ us) = end (y ∷ us)

-- A named formula: its name, the bytes from its first token up to behind its last, and its tree.
pub record NamedFormula : Type 0 where
  pub name : List ℕ
  pub begins : ℕ
  pub ends : ℕ
  pub tree : Tree

abbrev pub named_formula : List ℕ → List Item → Tree → NamedFormula
named_formula cs ts t = record { name = cs; begins = first_byte ts; ends = end ts; tree = t }

-- named = { Name "=" or ";" }, where the last ";" may be missing, and the depth of the deepest
pub data AreNamed : List Item → ℕ → List NamedFormula → Type 0 where
  no_entries : AreNamed [] 0 []
  last_entry : (x y : Item) (cs : List ℕ) (ts : List Item) (d : ℕ) (t : Tree)
      → x.meaning ≡ m.Name cs → y.meaning ≡ m.Symbol symbol.Equal
      → Parses (Several join.Or) d ts t [] → AreNamed (x ∷ y ∷ ts) d (named_formula cs ts t ∷ [])
  further_entry : (x y : Item) (cs : List ℕ) (ts : List Item) (d : ℕ) (t : Tree) (z : Item)
      (rest : List Item) (e : ℕ) (es : List NamedFormula)
      → x.meaning ≡ m.Name cs → y.meaning ≡ m.Symbol symbol.Equal
      → Parses (Several join.Or) d (ts ++ z ∷ rest) t (z ∷ rest)
      → z.meaning ≡ m.Symbol symbol.Semicolon → AreNamed rest e es
      → AreNamed (x ∷ y ∷ (ts ++ z ∷ rest)) (max d e) (named_formula cs ts t ∷ es)

-- The text's tokens, with what they mean. Characters are scalar values.
abbrev pub HasItems : List ℕ → List Item → Type 0
HasItems cs xs = (ls : List Lexeme) × HasLexemes cs ls × AllMean ls xs

-- these tokens are a formula of this tree, no deeper than n
abbrev pub IsTreeOf : ℕ → List Item → Tree → Type 0
IsTreeOf n xs t = (d : ℕ) × (d ≤ n) × IsFormula xs d t

-- each tree of these tokens is deeper than n
abbrev pub IsDeeper : ℕ → List Item → Type 0
IsDeeper n xs = (d : ℕ) (t : Tree) → IsFormula xs d t → n < d

-- these tokens are these named formulas, none deeper than n
abbrev pub AreEntriesOf : ℕ → List Item → List NamedFormula → Type 0
AreEntriesOf n xs es = (d : ℕ) × (d ≤ n) × AreNamed xs d es

-- where these tokens are named formulas, one of them is deeper than n
abbrev pub AreDeeper : ℕ → List Item → Type 0
AreDeeper n xs = (d : ℕ) (es : List NamedFormula) → AreNamed xs d es → n < d

-- the text is a formula of this tree, no deeper than n
abbrev pub HasTree : ℕ → List ℕ → Tree → Type 0
HasTree n cs t = (xs : List Item) × HasItems cs xs × IsTreeOf n xs t
