use Rattle.std.proofs.Common.{All, take}
use Rattle.fx_types.specs.TypeView.{shape}
use Rattle.fx_semantics.specs.Sound.{IsLawfulType}
use Rattle.fx_core.specs.declared.names.FormulaName.{FormulaName}
use Rattle.app_loader.proofs.types.look_at_formulas.Given as goal

abbrev pub invariant-loop-formula : goal.invariant-loop-formula
invariant-loop-formula l = All (λ (x : FormulaName). IsLawfulType (shape x.ty)) (take l.formula-index l.formulas)
