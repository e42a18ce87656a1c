use Rattle.std.proofs.Common.{◌≡◌, ◌++◌, drop, map}
use Rattle.serde_json.specs.View.{view}
use Rattle.app_reports.specs.Plans.{site_data}
use Rattle.app_reports.proofs.plan.push_sites.Given as goal

abbrev pub invariant-loop-site : goal.invariant-loop-site
invariant-loop-site l =
    map view l.all.items ++ map (site_data l.schema.tables l.info.cell.name) (drop l.site-index l.sites)
    ≡ map view l.fn.all.items ++ map (site_data l.schema.tables l.info.cell.name) l.sites
