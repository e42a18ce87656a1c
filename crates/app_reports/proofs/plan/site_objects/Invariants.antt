use Rattle.std.proofs.Common.{◌≡◌, ◌++◌, drop, map}
use Rattle.std.specs.Prelude.{flat_map}
use Rattle.serde_json.specs.View.{view}
use Rattle.app_reports.specs.Plans.{sites_data}
use Rattle.app_reports.proofs.plan.site_objects.Given as goal

abbrev pub invariant-loop-info : goal.invariant-loop-info
invariant-loop-info l =
    map view l.all.items ++ flat_map (sites_data l.app.names.schema.tables) (drop l.info-index l.cells) ≡ flat_map (sites_data l.app.names.schema.tables) l.cells
