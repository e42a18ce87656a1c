-- What holds of an app that is accepted.
use Rattle.std.specs.Prelude.{◌≡◌, ℕ, List, All, Ok, Some, codes, slice_get}
use Rattle.fx_core.specs.Lawful.{IsLawful}
use Rattle.fx_core.specs.declared.names.Names.{Names}
use Rattle.app_cells.specs.declared.app.App.{App}
use Rattle.app_cells.specs.declared.cell.Cell.{Cell}
use Rattle.app_cells.specs.declared.cell.Spot.TheVariants as spot
use Rattle.app_cells.specs.declared.frame.Frame.{Frame}
use Rattle.app_cells.specs.Spots.{IsPlaced}
use Rattle.app_names.specs.AppNames.{AreNamesOf}
use Rattle.app_semantics.specs.Sound.{IsSoundApp}
use Rattle.app_loader.specs.JudgedFormulas.{JudgedCells}
use Rattle.app_loader.specs.Types.{AreLawfullyTyped, HaveLawfulTrees}
use Rattle.session_state.specs.Changes.{HoldsTables}

-- no gallery has two formulas of its items
abbrev pub HaveOneTemplate : List Cell → Type 0
HaveOneTemplate cells =
    (i j : ℕ) (c d : Cell) (k : ℕ) → slice_get cells i ≡ Some c → slice_get cells j ≡ Some d
    → c.spot ≡ spot.Property k (codes "Items") → d.spot ≡ spot.Property k (codes "Items") → i ≡ j

-- An app that formulas are judged as: they stand where they say, no gallery has two formulas of its
-- items, and these are their names. Names and types are lawful, as those in memory are.
pub record IsAcceptedApp (f : Frame) (cells : List Cell) (most : ℕ) (a : App) : Type 0 where
  pub first : Names
  pub named : AreNamesOf f cells first
  pub placed : All (IsPlaced f) cells
  pub single : HaveOneTemplate cells
  pub judged : JudgedCells first most cells (Ok a)
  pub lawful : IsLawful a.names
  pub types : AreLawfullyTyped a.names
  pub trees : HaveLawfulTrees a.cells

-- an accepted app is sound
abbrev pub AcceptedIsSound : Type 0
AcceptedIsSound = (f : Frame) (cells : List Cell) (most : ℕ) (a : App)
    → IsAcceptedApp f cells most a → IsSoundApp a

-- each of its collections has the type of a table
abbrev pub AcceptedHoldsTables : Type 0
AcceptedHoldsTables = (f : Frame) (cells : List Cell) (most : ℕ) (a : App)
    → IsAcceptedApp f cells most a → HoldsTables a.names
