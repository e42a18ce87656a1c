-- Named formulas, one after another.
use Rattle.std.specs.Prelude.{◌≡◌, ℕ, ◌≤◌, List, [], ◌∷◌, map, Option, Some, None, option_map}
use Rattle.std.specs.Borrow.{Bor}
use Rattle.std.specs.Str.{IsCharBoundary}
use Rattle.fx_lexer.specs.declared.token.Symbol.TheVariants as symbol
use Rattle.fx_parser.specs.declared.descent_end.End.{End}
use Rattle.fx_parser.specs.declared.descent_end.End.TheVariants.{Refused, Memory}
use Rattle.fx_grammar.specs.declared.item.Item.{Item}
use Rattle.fx_grammar.specs.declared.item.Meaning.{Meaning}
use Rattle.fx_grammar.specs.declared.item.Meaning.TheVariants as m
use Rattle.fx_grammar.specs.Formulas.{NamedFormula, AreEntriesOf, AreDeeper}
use Rattle.fx_parser.specs.declared.entries.Named.{Named}
use Rattle.fx_parser.specs.Texts.{named_of}

-- The tokens stand in the source in rising order from this byte on, and it may be cut where they
-- begin and end.
abbrev pub AreCutsFrom : List ℕ → ℕ → List Item → Type 0
AreCutsFrom source from [] = Unit {0}
AreCutsFrom source from (x ∷ xs) = (from ≤ x.at) × IsCharBoundary source x.at × (x.at ≤ x.upto)
    × IsCharBoundary source x.upto × AreCutsFrom source x.upto xs

abbrev pub AreCuts : List ℕ → List Item → Type 0
AreCuts source xs = AreCutsFrom source 0 xs

-- a name and `=`, and the tokens behind them
abbrev pub entry_head_by : Meaning → Meaning → List Item → Option (List ℕ × List Item)
entry_head_by (m.Name cs) (m.Symbol symbol.Equal) us = Some (cs, us)
entry_head_by _ _ us = None

abbrev pub entry_head : List Item → Option (List ℕ × List Item)
entry_head [] = None
entry_head (x ∷ []) = None
entry_head (x ∷ y ∷ us) = entry_head_by x.meaning y.meaning us

abbrev pub head_seen : Option (Bor (List ℕ) × Bor (List Item)) → Option (List ℕ × List Item)
head_seen = option_map (λ x. (x.0.now, x.1.now))

-- the tokens behind a `;`, or none at the end
abbrev pub next_by : Meaning → List Item → Option (List Item)
next_by (m.Symbol symbol.Semicolon) us = Some us
next_by _ us = None

abbrev pub next_of : List Item → Option (List Item)
next_of [] = Some []
next_of (x ∷ us) = next_by x.meaning us

abbrev pub next_seen : Option (Bor (List Item)) → Option (List Item)
next_seen = option_map (λ x. x.now)

-- The first named formula of the tokens, where the others follow.
pub record IsFirstFormula (source : List ℕ) (ts : List Item) (n : Named) (others : List Item)
    : Type 0 where
  pub entry : NamedFormula
  pub is_it : n ≡ named_of source entry
  pub onward : (es : List NamedFormula) → AreEntriesOf 64 others es
      → AreEntriesOf 64 ts (entry ∷ es)
  pub refuse : AreDeeper 64 others → AreDeeper 64 ts

-- The tokens are these named formulas.
pub record AreThese (source : List ℕ) (ts : List Item) (ns : List Named) : Type 0 where
  pub entries : List NamedFormula
  pub are : AreEntriesOf 64 ts entries
  pub seen : ns ≡ map (named_of source) entries

-- why the tokens are no named formulas: one is deeper than 64
abbrev pub AreTooDeep : List Item → End → Type 0
AreTooDeep ts Refused = AreDeeper 64 ts
AreTooDeep ts Memory = Unit {0}
