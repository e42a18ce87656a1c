use Rattle.std.proofs.Common.{◌≡◌, map, take}
use Rattle.fx_core.specs.declared.names.FormulaName.{FormulaName}
use Rattle.office.proofs.named.named_roots.Given as goal

abbrev pub invariant-loop-formula : goal.invariant-loop-formula
invariant-loop-formula l = l.roots.items ≡ map (λ (f : FormulaName). f.cell) (take l.formula-index l.app.names.formulas)
