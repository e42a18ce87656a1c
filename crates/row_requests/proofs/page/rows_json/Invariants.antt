use Rattle.std.proofs.Common.{◌≡◌, map, take}
use Rattle.serde_json.specs.View.{view}
use Rattle.row_requests.specs.Page.{row_shown}
use Rattle.row_requests.proofs.page.rows_json.Given as goal

abbrev pub invariant-loop-row : goal.invariant-loop-row
invariant-loop-row l = map view l.all.items ≡ map (row_shown l.columns) (take l.row-index l.rows)
