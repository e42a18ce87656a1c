use Rattle.std.proofs.Common.{◌≡◌, ◌++◌, drop, map}
use Rattle.serde_json.specs.View.{view}
use Rattle.app_reports.specs.Graph.{reads_data}
use Rattle.app_reports.proofs.graph.cell_objects.Given as goal

abbrev pub invariant-loop-info : goal.invariant-loop-info
invariant-loop-info l =
    map view l.all.items ++ map (reads_data l.app) (drop l.info-index l.cells) ≡ map (reads_data l.app) l.cells
