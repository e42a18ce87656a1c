-- Types that trees and names have.
use Rattle.std.specs.Prelude.{List, [], ◌∷◌, All}
use Rattle.fx_types.specs.TypeView.{shape}
use Rattle.fx_semantics.specs.NamedTypes.{HasLawfulTypes}
use Rattle.fx_semantics.specs.Sound.{IsLawfulType}
use Rattle.fx_core.specs.declared.names.Collection.{Collection}
use Rattle.fx_core.specs.declared.names.ControlName.{ControlName}
use Rattle.fx_core.specs.declared.names.FormulaName.{FormulaName}
use Rattle.fx_core.specs.declared.names.Names.{Names}
use Rattle.fx_core.specs.declared.names.Variable.{Variable}
use Rattle.app_cells.specs.declared.app.CellInfo.{CellInfo}

-- all types that the trees of formulas name have rising columns at every depth
abbrev pub HaveLawfulTrees : List CellInfo → Type 0
HaveLawfulTrees [] = Unit {0}
HaveLawfulTrees (i ∷ is) = HasLawfulTypes i.core × HaveLawfulTrees is

-- and all types of names
pub record AreLawfullyTyped (n : Names) : Type 0 where
  pub formulas : All (λ (f : FormulaName). IsLawfulType (shape f.ty)) n.formulas
  pub variables : All (λ (v : Variable). IsLawfulType (shape v.ty)) n.variables
  pub collections : All (λ (c : Collection). IsLawfulType (shape c.ty)) n.collections
  pub controls : All (λ (c : ControlName). IsLawfulType (shape c.items)) n.controls
