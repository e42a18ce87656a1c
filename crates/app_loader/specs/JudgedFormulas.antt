-- The formulas of an app under its names, judged: they are this app, or these are the breaks of the
-- first stage that has any.
use Rattle.std.specs.Prelude.{◌≡◌, ℕ, List, [], ◌∷◌, length, map, Result, Ok, Err, codes}
use Rattle.depend_graph.specs.Order.{IsOrder}
use Rattle.fx_core.specs.declared.app_end.AppEnd.{AppEnd}
use Rattle.fx_core.specs.declared.app_end.AppEnd.TheVariants as end
use Rattle.fx_core.specs.declared.broken.Broken.{Broken}
use Rattle.fx_core.specs.declared.names.Names.{Names}
use Rattle.fx_core.specs.declared.rule.Rule.TheVariants as rule
use Rattle.fx_core.specs.Lawful.{IsLawful}
use Rattle.fx_typing.specs.Rounds.{AreFinalTypes, StillChanges}
use Rattle.app_cells.specs.declared.app.App.{App}
use Rattle.app_cells.specs.declared.app.CellInfo.{CellInfo}
use Rattle.app_cells.specs.declared.cell.Cell.{Cell}
use Rattle.app_cells.specs.Leaning.{edges_of}
use Rattle.app_loader.specs.Admitted.{AreRefused}
use Rattle.app_loader.specs.Cells.{AreCellsBelow, AreShallow, round_cell}
use Rattle.app_loader.specs.Cycles.{IsCycle}
use Rattle.app_loader.specs.Infos.{AreElaborated}
use Rattle.app_loader.specs.Supports.{HaveSupports, without_support}

-- each of 256 rounds changes a type
abbrev pub unsettled : Broken
unsettled = record {
  cell = codes "App";
  rule = rule.LimitPassed;
  at = 0;
  detail = codes "rounds 256";
}

-- these are names with their final types, under which these formulas are admitted, in an app of
-- this row limit
pub record AreSettled (first : Names) (most : ℕ) (cells : List Cell) (m : Names)
    (is : List CellInfo) : Type 0 where
  pub final : AreFinalTypes (map round_cell cells) first m
  pub elaborated : AreElaborated m most cells is

-- formulas with their typed trees in an app, in which each stands behind those that it leans on,
-- and it is said what each stands on
pub record IsOrdered (m : Names) (most : ℕ) (is : List CellInfo) (a : App) : Type 0 where
  pub names : a.names ≡ m
  pub cells : map without_support a.cells ≡ map without_support is
  pub limit : a.limit ≡ most
  pub order : IsOrder (length is) (edges_of m is) a.order
  pub supports : HaveSupports a

-- the one break of formulas that lean on one another in a circle
abbrev pub IsCyclic : Names → List CellInfo → List Broken → Type 0
IsCyclic m is bs = (b : Broken) × (bs ≡ b ∷ []) × IsCycle m is b

-- an app of formulas under names: each formula stands behind those that it leans on, and it is said
-- what each stands on
pub record IsAppOf (first : Names) (most : ℕ) (written : List Cell) (a : App) : Type 0 where
  pub settled : AreSettled first most written a.names a.cells
  pub order : IsOrder (length a.cells) (edges_of a.names a.cells) a.order
  pub supports : HaveSupports a
  pub limit : a.limit ≡ most

-- WHAT FORMULAS ARE UNDER NAMES: their types don't settle; some aren't admitted; some lean on one
-- another in a circle; or they are an app.
pub data JudgedCells : Names → ℕ → List Cell → Result App (List Broken) → Type 0 where
  unsettling : (n : Names) (limit : ℕ) (cells : List Cell) → StillChanges (map round_cell cells) n
      → JudgedCells n limit cells (Err (unsettled ∷ []))
  refused : (n : Names) (limit : ℕ) (cells : List Cell) (m : Names) (b : Broken) (bs : List Broken)
      → AreFinalTypes (map round_cell cells) n m
      → AreRefused m cells (b ∷ bs) → JudgedCells n limit cells (Err (b ∷ bs))
  cyclic : (n : Names) (limit : ℕ) (cells : List Cell) (m : Names) (is : List CellInfo) (b : Broken)
      → AreSettled n limit cells m is
      → IsCycle m is b → JudgedCells n limit cells (Err (b ∷ []))
  app : (n : Names) (limit : ℕ) (cells : List Cell) (a : App) → IsAppOf n limit cells a
      → JudgedCells n limit cells (Ok a)

-- formulas that are fit to be judged under names
pub record AreJudgeable (n : Names) (cells : List Cell) : Type 0 where
  pub lawful : IsLawful n
  pub shallow : AreShallow cells
  pub numbered : AreCellsBelow (length cells) n

-- breaks of which there is one at least
abbrev pub AreSomeBreaks : (List Broken → Type 0) → List Broken → Type 0
AreSomeBreaks P bs = (b : Broken) × (more : List Broken) × (bs ≡ b ∷ more) × P bs

-- an end tells of breaks of which this holds; of want of memory nothing is said
abbrev pub ReportsBreaks : (List Broken → Type 0) → AppEnd → Type 0
ReportsBreaks P (end.Refused all) = P all.items
ReportsBreaks P end.Memory = Unit {0}
