use Rattle.std.proofs.Common.{◌≡◌, ◌++◌, drop}
use Rattle.std.specs.Prelude.{flat_map, string_bytes}
use Rattle.app_reports.specs.Plans.{accepted_line, cell_lines}
use Rattle.app_reports.proofs.lines.checked_lines.Given as goal

abbrev pub invariant-loop-info : goal.invariant-loop-info
invariant-loop-info l =
    string_bytes l.text ++ flat_map (cell_lines l.app.names.schema.tables l.app.limit) (drop l.info-index l.cells)
    ≡ accepted_line l.app ++ flat_map (cell_lines l.app.names.schema.tables l.app.limit) l.cells
