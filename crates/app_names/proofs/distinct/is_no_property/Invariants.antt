use Rattle.std.proofs.Common.{◌≡◌, drop, nat_eq}
use Rattle.app_names.specs.Decided.{is_new, property_cells}
use Rattle.app_names.proofs.distinct.is_no_property.Given as goal

abbrev pub invariant-loop-property : goal.invariant-loop-property
invariant-loop-property l = is_new nat_eq l.cell (property_cells (drop l.property-index l.properties)) ≡ is_new nat_eq l.cell (property_cells l.properties)
