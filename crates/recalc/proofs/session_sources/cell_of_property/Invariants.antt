use Rattle.std.proofs.Common.{◌≡◌, drop}
use Rattle.std.specs.List.{find}
use Rattle.app_semantics.specs.app_cells.Leaning.{is_property}
use Rattle.recalc.proofs.session_sources.cell_of_property.Given as goal

-- it isn't among those that were seen
abbrev pub invariant-loop-property : goal.invariant-loop-property
invariant-loop-property l = find (is_property l.control l.name) (drop l.property-index l.names.properties) ≡ find (is_property l.control l.name) l.names.properties
