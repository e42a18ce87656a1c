use Rattle.std.proofs.Common.{◌≡◌, drop, nat_eq}
use Rattle.app_names.specs.Decided.{are_distinct, property_cells}
use Rattle.app_names.proofs.distinct.are_distinct_properties.Given as goal

abbrev pub invariant-loop-place : goal.invariant-loop-place
invariant-loop-place l = are_distinct nat_eq (property_cells (drop l.place l.properties)) ≡ are_distinct nat_eq (property_cells l.properties)
