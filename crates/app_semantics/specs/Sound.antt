-- What holds of an accepted app.
use Rattle.std.specs.Prelude.{◌≡◌, ◌↔◌, ℕ, List, [], length, true, false, Option, Some, None}
use Rattle.std.specs.Prelude.{slice_get}
use Rattle.app_cells.specs.Leaning.{edges_of}
use Rattle.app_cells.specs.Reach.{IsSupport}
use Rattle.app_cells.specs.Spots as spots
use Rattle.app_cells.specs.declared.app.App.{App}
use Rattle.app_cells.specs.declared.app.CellInfo.{CellInfo}
use Rattle.app_cells.specs.declared.frame.Frame.{Frame}
use Rattle.depend_graph.specs.Order.{IsOrder}
use Rattle.fx_types.specs.TypeView.{shape}
use Rattle.fx_types.specs.Types.{Shape}
use Rattle.fx_semantics.specs.Sound.{IsLawfulContext, IsLawfulTree}
use Rattle.fx_core.specs.Lawful.{IsLawful}
use Rattle.fx_core.specs.Reads.{IsAmong, sources_in}
use Rattle.fx_core.specs.SourceTypes.{property_of, sources}
use Rattle.fx_core.specs.declared.names.ControlName.{ControlName}
use Rattle.fx_core.specs.declared.names.FormulaName.{FormulaName}
use Rattle.fx_core.specs.declared.names.Names.{Names}
use Rattle.fx_core.specs.declared.names.Property.{Property}
use Rattle.fx_core.specs.declared.schema.TableShape.{TableShape}
use Rattle.fx_core.specs.declared.sources.Source.{Source}
use Rattle.fx_semantics.specs.NamedTypes.{HasLawfulTypes}
use Rattle.fx_semantics.specs.Places.{IsPlaced}
use Rattle.fx_typing.specs.Acts.{acts}
use Rattle.fx_typing.specs.Typing.{item_context}
use Rattle.fx_typing.specs.WellTyped.{Context, IsTyped}
use Rattle.fx_plan.specs.Limited.{limited}

-- where the tree of a formula stands: among the names of the app, and perhaps in a gallery. Calls
-- of the app's own functions are expanded in it, so none of these is left.
abbrev pub context_at : Names → Option ℕ → Context
context_at n gallery = record {
  sources = sources n;
  screens = length n.screens;
  rows = [];
  item = item_context n gallery;
  caught = false;
  functions = [];
}

-- a formula that doesn't act is a lawful tree, among lawful types, and nothing in it acts
pub record IsCalm (n : Names) (c : CellInfo) : Type 0 where
  pub context : IsLawfulContext (context_at n c.cell.item)
  pub lawful : IsLawfulTree c.core
  pub quiet : acts c.core ≡ false

-- A formula that acts can be performed: it stands among lawful types, its tree names lawful types,
-- and what acts in it acts in its place.
pub record IsPerformable (n : Names) (c : CellInfo) : Type 0 where
  pub context : IsLawfulContext (context_at n c.cell.item)
  pub lawful : HasLawfulTypes c.core
  pub placed : IsPlaced c.core

-- A formula has its type where it stands. It reads what stands in its tree.
pub record IsSoundCell (n : Names) (c : CellInfo) : Type 0 where
  pub typed : IsTyped (context_at n c.cell.item) c.core (shape c.ty)
  pub calm : c.cell.acts ≡ false → IsCalm n c
  pub acting : c.cell.acts ≡ true → IsPerformable n c
  pub reads : (s : Source) → IsAmong s c.reads ↔ IsAmong s (sources_in c.core)

-- the cell of this number has a formula that doesn't act, sees the item of this gallery, if any,
-- and has this type
pub record IsCellOf (cells : List CellInfo) (k : ℕ) (gallery : Option ℕ) (t : Shape) : Type 0 where
  pub cell : CellInfo
  pub there : slice_get cells k ≡ Some cell
  pub quiet : cell.cell.acts ≡ false
  pub item : cell.cell.item ≡ gallery
  pub ty : shape cell.ty ≡ t

-- the tree that is evaluated is the formula's, in which query expressions that aren't taken whole
-- give their first rows
abbrev pub IsLimitedTree : List TableShape → ℕ → CellInfo → Type 0
IsLimitedTree ts most c = c.taken ≡ limited ts most 0 false c.core

-- what an app has beside its formulas
abbrev pub frame_in : App → Frame
frame_in a = record {
  schema = a.names.schema;
  limit = a.limit;
  screens = a.names.screens;
  controls = a.names.controls;
}

-- AN ACCEPTED APP: its names are lawful and those of its cells, each formula stands where it says
-- and has its type, the order is one of leaning, and of each formula it is known what it stands on.
pub record IsSoundApp (a : App) : Type 0 where
  pub names : IsLawful a.names
  pub placed : (k : ℕ) (c : CellInfo) → slice_get a.cells k ≡ Some c
      → spots.IsPlaced (frame_in a) c.cell
  pub cells : (k : ℕ) (c : CellInfo) → slice_get a.cells k ≡ Some c → IsSoundCell a.names c
  pub formulas : (i : ℕ) (f : FormulaName) → slice_get a.names.formulas i ≡ Some f
      → IsCellOf a.cells f.cell None (shape f.ty)
  pub properties : (i : ℕ) (p : Property) (c : ControlName) (t : Shape) →
      slice_get a.names.properties i ≡ Some p → slice_get a.names.controls p.control ≡ Some c
      → property_of p.name c ≡ Some t →
      IsCellOf a.cells p.cell c.gallery t
  pub taken : (k : ℕ) (c : CellInfo) → slice_get a.cells k ≡ Some c
      → IsLimitedTree a.names.schema.tables a.limit c
  pub order : IsOrder (length a.cells) (edges_of a.names a.cells) a.order
  pub supports : (k : ℕ) (c : CellInfo) → slice_get a.cells k ≡ Some c → IsSupport a k c.support
