use Rattle.std.proofs.Common.{◌≡◌, ◌++◌, drop}
use Rattle.std.specs.Prelude.{option_map}
use Rattle.serde_json.specs.View.{items_view}
use Rattle.row_requests.specs.Bodies.{changes_in}
use Rattle.row_requests.proofs.bodies.changes_in.Given as goal

abbrev pub invariant-loop-json : goal.invariant-loop-json
invariant-loop-json l =
    option_map (λ cs. l.changes ++ cs) (changes_in (items_view (drop l.json-index l.items))) ≡ changes_in (items_view l.items)
