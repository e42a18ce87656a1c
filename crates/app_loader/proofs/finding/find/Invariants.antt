use Rattle.std.proofs.Common.{◌≡◌, drop}
use Rattle.std.specs.Prelude.{bytes_eq, encode_utf8_all}
use Rattle.std.specs.List.{position_from}
use Rattle.app_cells.specs.declared.app.CellInfo.{CellInfo}
use Rattle.app_loader.proofs.finding.find.Given as goal

abbrev pub invariant-loop-info : goal.invariant-loop-info
invariant-loop-info l =
    (l.number ≡ l.info-index)
    × (position_from (λ (i : CellInfo). bytes_eq (encode_utf8_all i.cell.name) l.address) l.info-index (drop l.info-index l.app.cells) ≡ position_from (λ (i : CellInfo). bytes_eq (encode_utf8_all i.cell.name) l.address) 0 l.app.cells)
