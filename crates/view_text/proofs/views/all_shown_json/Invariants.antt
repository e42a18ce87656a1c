use Rattle.std.proofs.Common.{◌≡◌, map, take}
use Rattle.serde_json.specs.View.{view}
use Rattle.view_text.specs.ViewText.{shown_data}
use Rattle.view_text.proofs.views.all_shown_json.Given as goal

abbrev pub invariant-loop-shown : goal.invariant-loop-shown
invariant-loop-shown l = map view l.objects.items ≡ map shown_data (take l.shown-index l.all)
