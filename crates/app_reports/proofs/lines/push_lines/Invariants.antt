use Rattle.std.proofs.Common.{◌≡◌, ◌++◌, drop}
use Rattle.std.specs.Prelude.{flat_map, string_bytes}
use Rattle.app_reports.specs.Plans.{site_line}
use Rattle.app_reports.proofs.lines.push_lines.Given as goal

abbrev pub invariant-loop-site : goal.invariant-loop-site
invariant-loop-site l =
    string_bytes l.text ++ flat_map (site_line l.schema.tables l.limit l.info.cell.name) (drop l.site-index l.sites)
    ≡ string_bytes l.fn.text ++ flat_map (site_line l.schema.tables l.limit l.info.cell.name) l.sites
