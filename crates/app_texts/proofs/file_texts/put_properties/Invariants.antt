use Rattle.std.proofs.Common.{◌≡◌, ◌++◌, drop, map}
use Rattle.std.specs.List.{filter}
use Rattle.app_file.specs.declared.file.PropertyText.{PropertyText}
use Rattle.app_cells.specs.declared.cell.Spot.TheVariants as spot
use Rattle.app_texts.specs.Files.{is_written, property_texts, text_of_spot}
use Rattle.app_texts.proofs.file_texts.put_properties.Given as goal

abbrev pub invariant-loop-property : goal.invariant-loop-property
invariant-loop-property l =
    l.texts.items ++ filter is_written (map (λ (p : PropertyText). text_of_spot (spot.Property l.number p.name) p.text) (drop l.property-index l.control.properties))
    ≡ l.fn.texts.items ++ filter is_written (property_texts l.number l.control)
