-- What fresh values are like.
use Rattle.std.specs.Prelude.{◌≡◌, ℕ, true, Some, slice_get}
use Rattle.app_cells.specs.declared.app.CellInfo.{CellInfo}
use Rattle.app_semantics.specs.Fresh.{AreKnown, IsFresh}
use Rattle.app_semantics.specs.Needed.{IsFreshAt}
use Rattle.app_semantics.specs.Present.{Present}
use Rattle.app_semantics.specs.Sound.{IsSoundApp}
use Rattle.fx_types.specs.TypeView.{shape}
use Rattle.fx_types.specs.Values.{Data}
use Rattle.fx_value.specs.Fits.{fits_in}
use Rattle.app_semantics.specs.Holding.{HoldRows, HoldsFitting}

-- each fresh value fits the type of its cell
abbrev pub FreshFits : Type 0
FreshFits =
    (p : Present) (values : ℕ → Data) → IsSoundApp p.app → HoldsFitting p.app.names p.session
    → HoldRows p.app.names.schema p.tables → IsFresh p values →
    (k : ℕ) (c : CellInfo) → slice_get p.app.cells k ≡ Some c
    → fits_in (values k) (shape c.ty) ≡ true

-- an app has one fresh assignment, where all that it reads is told: its formulas don't lean on one
-- another in a circle
abbrev pub OneFresh : Type 0
OneFresh =
    (p : Present) (values others : ℕ → Data) → IsSoundApp p.app → HoldsFitting p.app.names p.session
    → AreKnown p.app p.tables →
    IsFresh p values → IsFresh p others → values ≡ others

-- a cell has one fresh value, however little is known of cells that it doesn't need
abbrev pub OneFreshAt : Type 0
OneFreshAt =
    (p : Present) (values others : ℕ → Data) (k : ℕ) (c : CellInfo) → IsSoundApp p.app
    → HoldsFitting p.app.names p.session → AreKnown p.app p.tables →
    slice_get p.app.cells k ≡ Some c → IsFreshAt p values k → IsFreshAt p others k
    → values k ≡ others k
