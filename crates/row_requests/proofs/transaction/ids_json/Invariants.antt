use Rattle.std.proofs.Common.{◌≡◌, map, take}
use Rattle.serde_json.specs.View.{view}
use Rattle.row_requests.specs.DeskRows.{ids_data}
use Rattle.row_requests.proofs.transaction.ids_json.Given as goal

abbrev pub invariant-loop-id : goal.invariant-loop-id
invariant-loop-id l = map view l.all.items ≡ map ids_data (take l.id-index l.ids)
