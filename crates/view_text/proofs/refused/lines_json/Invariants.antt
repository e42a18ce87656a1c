use Rattle.std.proofs.Common.{◌≡◌, map, take}
use Rattle.serde_json.specs.View.{view}
use Rattle.view_text.specs.RefusalText.{line_data}
use Rattle.view_text.proofs.refused.lines_json.Given as goal

abbrev pub invariant-loop-line : goal.invariant-loop-line
invariant-loop-line l = map view l.texts.items ≡ map line_data (take l.line-index l.lines)
