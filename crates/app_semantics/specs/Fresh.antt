-- The fresh values of the formulas of an app: those of their trees, where nothing is kept.
use Rattle.std.specs.Prelude.{◌≡◌, ℕ, List, [], Bool, true, false, not, Option, Some, None}
use Rattle.std.specs.Prelude.{slice_get}
use Rattle.std.specs.List.{list_any}
use Rattle.app_cells.specs.declared.app.App.{App}
use Rattle.app_cells.specs.declared.app.CellInfo.{CellInfo}
use Rattle.app_semantics.specs.Holding.{HoldRows}
use Rattle.app_semantics.specs.Present.{SourceGives, Present}
use Rattle.fx_types.specs.Values.{Data, blank}
use Rattle.fx_semantics.specs.Around.{Around}
use Rattle.fx_core.specs.Reads.{IsAmong}
use Rattle.fx_core.specs.declared.sources.Source.{Source}
use Rattle.fx_core.specs.declared.sources.Source.TheVariants as source
use Rattle.fx_types.specs.TypeView.{shape}
use Rattle.fx_value.specs.Fits.{fits_in}
use Rattle.fx_plan.specs.Limited.{IsTakenValue}
use Rattle.row_queries.specs.declared.rows.Row.{Row}

-- a formula may read tables, and of all other sources these
abbrev pub CanRead : List Source → Source → Type 0
CanRead reads (source.Table k) = Unit {0}
CanRead reads s = IsAmong s reads

-- where a formula stands that reads these sources: over what they and tables give, and over the
-- item of a gallery if it sees one
abbrev pub formula_context : Present → (ℕ → Data) → List Source → Option Data → Around
formula_context p values reads item = record {
  gives = λ s v. CanRead reads s
      × SourceGives p values s v;
  rows = [];
  item = item;
  caught = None;
}

-- a formula reads a table
abbrev pub is_table : Source → Bool
is_table (source.Table k) = true
is_table s = false

abbrev pub reads_table : List Source → Bool
reads_table reads = list_any is_table reads

-- what these sources give is told: the rows of tables are, or no table is among them
abbrev pub is_told : Option (List (List Row)) → List Source → Bool
is_told (Some tables) reads = true
is_told None reads = not (reads_table reads)

-- P where it is told, and Q where it isn't
abbrev pub IsWhere : Bool → Type 0 → Type 0 → Type 0
IsWhere true P Q = P
IsWhere false P Q = Q

-- THE VALUE OF A FORMULA where cells have these values. A query expression that no function takes
-- whole gives its first rows, as many as the app's row limit. Over rows that aren't told it is a
-- value of the formula's type.
abbrev pub IsValueOf : Present → (ℕ → Data) → Option Data → CellInfo → Data → Type 0
IsValueOf p values item c v =
    IsWhere (is_told p.tables c.reads) (IsTakenValue p.app.names.schema.tables p.app.limit
    (formula_context p values c.reads item) c.core v)
    (fits_in v (shape c.ty) ≡ true)

-- A formula that neither acts nor sees an item has a value by itself: P holds of it. Another counts
-- as blank; none names it.
abbrev pub IsByItself : Bool → Option ℕ → Type 0 → Data → Type 0
IsByItself false None P v = P
IsByItself acts item P v = v ≡ blank

abbrev pub IsCellValue : Present → (ℕ → Data) → CellInfo → Data → Type 0
IsCellValue p values c v = IsByItself c.cell.acts c.cell.item (IsValueOf p values None c v) v

-- FRESH: each cell has the value of its tree, over the values that all cells have. No order is in
-- it. Where there is no cell blank stands, so that an app has one such assignment over rows that
-- are told.
pub record IsFresh (p : Present) (values : ℕ → Data) : Type 0 where
  pub cells : (k : ℕ) (c : CellInfo) → slice_get p.app.cells k ≡ Some c
      → IsCellValue p values c (values k)
  pub beyond : (k : ℕ) → slice_get p.app.cells k ≡ None → values k ≡ blank

-- all that the formulas of an app read is told, and the rows that are told fit their tables
pub record AreKnown (a : App) (tables : Option (List (List Row))) : Type 0 where
  pub told : (k : ℕ) (c : CellInfo) → slice_get a.cells k ≡ Some c → is_told tables c.reads ≡ true
  pub fit : HoldRows a.names.schema tables
