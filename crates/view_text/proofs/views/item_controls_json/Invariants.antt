use Rattle.std.proofs.Common.{◌≡◌, map, take}
use Rattle.serde_json.specs.View.{view}
use Rattle.view_text.specs.ViewText.{item_control_data}
use Rattle.view_text.proofs.views.item_controls_json.Given as goal

abbrev pub invariant-loop-control : goal.invariant-loop-control
invariant-loop-control l = map view l.objects.items ≡ map item_control_data (take l.control-index l.all)
