use Rattle.std.proofs.Common.{◌≡◌, ◌++◌, drop, map}
use Rattle.serde_json.specs.View.{view}
use Rattle.app_reports.specs.Graph.{read_data}
use Rattle.app_reports.proofs.graph.source_names.Given as goal

abbrev pub invariant-loop-source : goal.invariant-loop-source
invariant-loop-source l =
    map view l.all.items ++ map (read_data l.app) (drop l.source-index l.sources) ≡ map (read_data l.app) l.sources
