-- The formulas of an app, as they are judged.
use Rattle.std.specs.Prelude.{ℕ, ◌<◌, ◌≤◌, List, All, Result, option_map}
use Rattle.fx_types.specs.TypeView.{shape}
use Rattle.fx_types.specs.Types.{Shape}
use Rattle.fx_core.specs.declared.names.FormulaName.{FormulaName}
use Rattle.fx_core.specs.declared.names.Names.{Names}
use Rattle.fx_core.specs.declared.names.Property.{Property}
use Rattle.fx_core.specs.Term.{Term}
use Rattle.fx_typing.specs.Meaning.{Place}
use Rattle.fx_typing.specs.Rounds as rounds
use Rattle.fx_typing.specs.Typing.{judge_whole}
use Rattle.fx_infer.specs.Below.{tree_depth}
use Rattle.app_cells.specs.declared.cell.Cell.{Cell}

-- a formula, as rounds see it
abbrev pub round_cell : Cell → rounds.Cell
round_cell c = record {
  screen = c.screen;
  gallery = c.item;
  acts = c.acts;
  wanted = option_map shape c.wanted;
  formula = c.expr;
}

-- it is judged under types that are settled
abbrev pub cell_place : Names → Cell → Place
cell_place n c = rounds.place_in_round n (round_cell c)

-- what a formula is under names: a tree with its type, or the place and the number of a broken rule
abbrev pub judged_cell : Names → Cell → Result (Term × Shape) (ℕ × ℕ)
judged_cell n c = judge_whole (cell_place n c) c.acts (option_map shape c.wanted) c.expr

-- its nodes stand at most so deep
abbrev pub AreShallow : List Cell → Type 0
AreShallow cs = All (λ (c : Cell). tree_depth c.expr ≤ 256) cs

-- each number of a cell in names is below this one
pub record AreCellsBelow (count : ℕ) (n : Names) : Type 0 where
  pub formulas : All (λ (f : FormulaName). f.cell < count) n.formulas
  pub properties : All (λ (p : Property). p.cell < count) n.properties
