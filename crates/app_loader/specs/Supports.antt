-- What formulas stand on.
use Rattle.std.specs.Prelude.{◌≡◌, ◌↔◌, ◌⊎◌, ℕ, List, [], length, map, false, Some, slice_get}
use Rattle.fx_core.specs.Reads.{AreSourcesRising, IsAmong}
use Rattle.fx_core.specs.declared.names.Names.{Names}
use Rattle.fx_core.specs.declared.sources.Source.{Source}
use Rattle.app_cells.specs.declared.app.App.{App}
use Rattle.app_cells.specs.declared.app.CellInfo.{CellInfo}
use Rattle.app_cells.specs.Leaning.{cell_behind}
use Rattle.app_cells.specs.Reach.{IsSupport, is_cell}

-- of each formula of an app it is said what it stands on
abbrev pub HaveSupports : App → Type 0
HaveSupports a = (k : ℕ) (c : CellInfo) → slice_get a.cells k ≡ Some c → IsSupport a k c.support

-- a formula, whatever is said of what it stands on
abbrev pub without_support : CellInfo → CellInfo
without_support i = record i { support = [] }

-- formulas under names, with no order
abbrev pub unordered : Names → List CellInfo → App
unordered n is = record { names = n; cells = is; order = []; limit = 0 }

-- each formula's list of what it names rises
abbrev pub HaveRisingReads : List CellInfo → Type 0
HaveRisingReads is = (k : ℕ) (i : CellInfo) → slice_get is k ≡ Some i → AreSourcesRising i.reads

-- lists that rise
abbrev pub AllRise : List (List Source) → Type 0
AllRise supports = (k : ℕ) (support : List Source) → slice_get supports k ≡ Some support
    → AreSourcesRising support

-- who names the first source leans on a formula that stands on the second one
abbrev pub IsBehind : Names → List (List Source) → Source → Source → Type 0
IsBehind n supports x s = (d : ℕ) × (support : List Source) × (cell_behind n x ≡ Some d)
    × (slice_get supports d ≡ Some support) × IsAmong s support

-- The support of a formula that names these sources: each that is no cell, and each on which a
-- formula that it leans on stands.
pub record IsJoined (n : Names) (reads : List Source) (supports : List (List Source))
    (support : List Source) : Type 0 where
  pub once : AreSourcesRising support
  pub exact : (s : Source) → IsAmong s support
      ↔ (((is_cell s ≡ false) × IsAmong s reads)
      ⊎ ((x : Source) × IsAmong x reads × IsBehind n supports x s))

-- the supports of formulas under names, by their numbers
pub record AreSupports (n : Names) (is : List CellInfo) (supports : List (List Source))
    : Type 0 where
  pub many : length supports ≡ length is
  pub each : (k : ℕ) (support : List Source) → slice_get supports k ≡ Some support
      → IsSupport (unordered n is) k support

-- the same formulas, of which it is said what they stand on
pub record AreSupported (n : Names) (before after : List CellInfo) : Type 0 where
  pub same : map without_support after ≡ map without_support before
  pub each : HaveSupports (unordered n after)
