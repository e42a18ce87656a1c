use Rattle.std.proofs.Common.{◌≡◌, map, take}
use Rattle.serde_json.specs.View.{view}
use Rattle.view_text.specs.ViewText.{item_data}
use Rattle.view_text.proofs.views.all_items_json.Given as goal

abbrev pub invariant-loop-item : goal.invariant-loop-item
invariant-loop-item l = map view l.objects.items ≡ map item_data (take l.item-index l.all)
