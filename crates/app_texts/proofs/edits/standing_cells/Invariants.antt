use Rattle.std.proofs.Common.{◌≡◌, ◌++◌, drop, map}
use Rattle.std.specs.Prelude.{filter_map}
use Rattle.app_cells.specs.declared.app.CellInfo.{CellInfo}
use Rattle.app_texts.specs.Edits.{edited_cell}
use Rattle.app_texts.proofs.edits.standing_cells.Given as goal

abbrev pub invariant-loop-here : goal.invariant-loop-here
invariant-loop-here l =
    l.standing.items ++ filter_map (edited_cell (map (λ (i : CellInfo). i.cell) l.cells) l.spot l.given) (drop l.here-index l.spots)
    ≡ filter_map (edited_cell (map (λ (i : CellInfo). i.cell) l.cells) l.spot l.given) l.spots
