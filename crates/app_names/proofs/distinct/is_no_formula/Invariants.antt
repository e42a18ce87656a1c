use Rattle.std.proofs.Common.{◌≡◌, drop, nat_eq}
use Rattle.app_names.specs.Decided.{is_new, formula_cells}
use Rattle.app_names.proofs.distinct.is_no_formula.Given as goal

abbrev pub invariant-loop-formula : goal.invariant-loop-formula
invariant-loop-formula l = is_new nat_eq l.cell (formula_cells (drop l.formula-index l.formulas)) ≡ is_new nat_eq l.cell (formula_cells l.formulas)
