use Rattle.std.proofs.Common.{◌≡◌, drop, nat_eq}
use Rattle.app_names.specs.Decided.{are_distinct, formula_cells}
use Rattle.app_names.proofs.distinct.are_distinct_formulas.Given as goal

abbrev pub invariant-loop-place : goal.invariant-loop-place
invariant-loop-place l = are_distinct nat_eq (formula_cells (drop l.place l.formulas)) ≡ are_distinct nat_eq (formula_cells l.formulas)
