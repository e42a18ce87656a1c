use Rattle.std.proofs.Common.{◌≡◌, drop, nat_eq}
use Rattle.app_names.specs.Decided.{are_apart, formula_cells, property_cells}
use Rattle.app_names.proofs.distinct.are_apart.Given as goal

abbrev pub invariant-loop-formula : goal.invariant-loop-formula
invariant-loop-formula l = are_apart nat_eq (formula_cells (drop l.formula-index l.formulas)) (property_cells l.properties) ≡ are_apart nat_eq (formula_cells l.formulas) (property_cells l.properties)
