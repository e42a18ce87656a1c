-- The names that the formulas of an app may use.
use Rattle.std.specs.Prelude.{◌≡◌, ℕ, suc, List, [], ◌∷◌, ◌++◌, flat_map, map}
use Rattle.fx_types.specs.declared.types.Ty.TheVariants as ty
use Rattle.fx_core.specs.declared.names.Collection.{Collection}
use Rattle.fx_core.specs.declared.names.FormulaName.{FormulaName}
use Rattle.fx_core.specs.declared.names.Names.{Names}
use Rattle.fx_core.specs.declared.names.Property.{Property}
use Rattle.fx_core.specs.declared.names.Variable.{Variable}
use Rattle.fx_sig.specs.Entries.{entries, entry}
use Rattle.app_cells.specs.declared.cell.Cell.{Cell}
use Rattle.app_cells.specs.declared.cell.Spot.{Spot}
use Rattle.app_cells.specs.declared.cell.Spot.TheVariants as spot
use Rattle.app_cells.specs.declared.frame.Frame.{Frame}
use Rattle.app_names.specs.declared.declarations.Declared.{Declared}
use Rattle.app_names.specs.declared.declarations.Thing.{Thing}
use Rattle.app_names.specs.declared.declarations.Thing.TheVariants as thing
use Rattle.app_names.specs.Declarations.{things_of}

-- a named formula and a property, by the number of their cell
abbrev pub as_formula : ℕ → Spot → List FormulaName
as_formula k (spot.Formula x) = record { name = x; cell = k; ty = ty.Blank } ∷ []
as_formula k s = []

abbrev pub as_property : ℕ → Spot → List Property
as_property k (spot.Property control p) = record { control = control; name = p; cell = k } ∷ []
as_property k s = []

-- the named formulas and the written properties among cells, which are numbered from this number on
abbrev pub formulas_from : ℕ → List Cell → List FormulaName
formulas_from k [] = []
formulas_from k (c ∷ cs) = as_formula k c.spot ++ formulas_from (suc k) cs

abbrev pub properties_from : ℕ → List Cell → List Property
properties_from k [] = []
properties_from k (c ∷ cs) = as_property k c.spot ++ properties_from (suc k) cs

abbrev pub as_variable : Declared → Thing → List Variable
as_variable d (thing.Variable s) = record { name = d.name; screen = s; ty = ty.Blank } ∷ []
as_variable d thing.Collection = []

abbrev pub as_collection : Declared → Thing → List Collection
as_collection d thing.Collection = record { name = d.name; ty = ty.Blank } ∷ []
as_collection d (thing.Variable s) = []

abbrev pub variables_among : List Declared → List Variable
variables_among ds = flat_map (λ (d : Declared). as_variable d d.thing) ds

abbrev pub collections_among : List Declared → List Collection
collections_among ds = flat_map (λ (d : Declared). as_collection d d.thing) ds

-- THE NAMES OF AN APP: all functions, its tables, screens and controls, its named formulas and
-- written properties by the numbers of their cells, which are their places, and what its formulas
-- declare, each of type Blank so far. No app has functions of its own yet.
pub record AreNamesOf (f : Frame) (cells : List Cell) (n : Names) : Type 0 where
  pub signatures : map entry n.signatures.now ≡ entries
  pub schema : n.schema ≡ f.schema
  pub screens : n.screens ≡ f.screens
  pub controls : n.controls ≡ f.controls
  pub properties : n.properties ≡ properties_from 0 cells
  pub functions : n.functions ≡ []
  pub formulas : n.formulas ≡ formulas_from 0 cells
  pub variables : n.variables ≡ variables_among (things_of n.signatures.now f cells)
  pub collections : n.collections ≡ collections_among (things_of n.signatures.now f cells)
