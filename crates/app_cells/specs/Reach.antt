-- What a formula stands on: the sources that it names, and those that the formulas name to which
-- paths of leaning lead from it.
use Rattle.std.specs.Prelude.{◌≡◌, ◌↔◌, ℕ, List, Bool, true, false, Some, slice_get}
use Rattle.fx_core.specs.Reads.{AreSourcesRising, IsAmong}
use Rattle.fx_core.specs.declared.sources.Source.{Source}
use Rattle.fx_core.specs.declared.sources.Source.TheVariants as source
use Rattle.app_cells.specs.Leaning.{LeansOn}
use Rattle.app_cells.specs.declared.app.App.{App}
use Rattle.app_cells.specs.declared.app.CellInfo.{CellInfo}

-- a cell names the source, or leans on a cell that reaches it
pub data Reaches (a : App) : ℕ → Source → Type 0 where
  named : (k : ℕ) (c : CellInfo) (s : Source) → slice_get a.cells k ≡ Some c → IsAmong s c.reads
      → Reaches a k s
  through : (k d : ℕ) (c : CellInfo) (s : Source) → slice_get a.cells k ≡ Some c
      → LeansOn a.names c d → Reaches a d s → Reaches a k s

-- a source is no cell
abbrev pub is_cell : Source → Bool
is_cell (source.Cell k) = true
is_cell s = false

-- THE SUPPORT of the cell of this number: the sources, cells aside, that it reaches, each once
pub record IsSupport (a : App) (k : ℕ) (support : List Source) : Type 0 where
  pub once : AreSourcesRising support
  pub exact : (s : Source) → IsAmong s support ↔ ((is_cell s ≡ false) × Reaches a k s)
