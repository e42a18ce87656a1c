use Rattle.std.proofs.Common.{◌≡◌, drop}
use Rattle.std.specs.List.{find}
use Rattle.app_cells.specs.Leaning.{is_property}
use Rattle.app_loader.proofs.edges.property_cell.Given as goal

abbrev pub invariant-loop-property : goal.invariant-loop-property
invariant-loop-property l = find (is_property l.control l.name) (drop l.property-index l.property-items) ≡ find (is_property l.control l.name) l.names.properties
