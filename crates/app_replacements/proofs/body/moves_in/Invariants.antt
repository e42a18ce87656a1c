use Rattle.std.proofs.Common.{◌≡◌, ◌++◌, drop}
use Rattle.std.specs.Prelude.{option_map}
use Rattle.serde_json.specs.View.{items_view}
use Rattle.app_replacements.specs.Bodies.{moves_in}
use Rattle.app_replacements.proofs.body.moves_in.Given as goal

abbrev pub invariant-loop-json : goal.invariant-loop-json
invariant-loop-json l =
    option_map (λ ms. l.moves ++ ms) (moves_in (items_view (drop l.json-index l.items))) ≡ moves_in (items_view l.items)
