use Rattle.std.proofs.Common.{◌≡◌, drop, map}
use Rattle.std.specs.List.{position_from}
use Rattle.serde_json.specs.View.{view}
use Rattle.app_file.specs.FormOfApp.{is_gallery_shape}
use Rattle.app_file.proofs.screens.gallery_place.Given as goal

abbrev pub invariant-loop-place : goal.invariant-loop-place
invariant-loop-place l = position_from (is_gallery_shape l.name) l.place (map view (drop l.place l.before)) ≡ position_from (is_gallery_shape l.name) 0 (map view l.before)
