-- Galleries by their names.
use Rattle.std.specs.Prelude.{ℕ, Bool, true, false, ◌&&◌, bytes_eq, List, Option}
use Rattle.std.specs.List.{position}
use Rattle.fx_types.specs.declared.controls.Control.TheVariants as control
use Rattle.fx_types.specs.declared.controls.Control.{Control}
use Rattle.fx_core.specs.declared.names.ControlName.{ControlName}
use Rattle.fx_core.specs.declared.names.Names.{Names}

abbrev pub is_gallery : Control → Bool
is_gallery control.Gallery = true
is_gallery kind = false

abbrev pub is_gallery_named : List ℕ → ControlName → Bool
is_gallery_named name c = is_gallery c.kind && bytes_eq c.name name

-- the number of the gallery of this name
abbrev pub gallery_named : List ℕ → Names → Option ℕ
gallery_named name n = position (is_gallery_named name) n.controls
