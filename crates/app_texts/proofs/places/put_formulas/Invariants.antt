use Rattle.std.proofs.Common.{◌≡◌, ◌++◌, drop}
use Rattle.std.specs.Prelude.{flat_map}
use Rattle.app_cells.specs.declared.app.CellInfo.{CellInfo}
use Rattle.app_texts.specs.Places.{named_spot}
use Rattle.app_texts.proofs.places.put_formulas.Given as goal

abbrev pub invariant-loop-info : goal.invariant-loop-info
invariant-loop-info l =
    l.spots.items ++ flat_map (λ (i : CellInfo). named_spot i.cell.spot) (drop l.info-index l.cells)
    ≡ l.fn.spots.items ++ flat_map (λ (i : CellInfo). named_spot i.cell.spot) l.cells
