use Rattle.std.proofs.Common.{◌≡◌, ◌≤◌, [], arith, rules}
use Rattle.row_changes.specs.Overlay.{last_of, shown_lines}
use Rattle.row_queries.specs.TableRows.{IsHeldRow}
use Rattle.store_reading.proofs.OverlaidLemmas.{along, rows_overlaid, rows_read}
use Rattle.store_reading.proofs.reading.overlaid.Goals as goal

pub returns-clause-held : goal.returns-clause-held
returns-clause-held c = along (IsHeldRow c.args.table.now) c.push_all_made.new.rows.items c.sort_rows.new.rows.items c.in_ok-sort_rows.ensures.permutation c.push_all_made.ensures.held

pub returns-clause-rows : goal.returns-clause-rows
returns-clause-rows c = λ kept is are.
    let changes = c.args.changes.now in
    let columns = c.args.table.now.columns in
    let none : c.new-rows.result.items ≡ [] = search rules in
    let top : last_of changes ≤ c.last-top.result = omega arith in
    rows_overlaid changes columns kept c.last-top.result c.push_all_made.new.rows.items c.sort_rows.new.rows.items c.is_ordered.ensures are top
    (rows_read changes columns kept c.last-top.result c.new-rows.result.items c.push_all_kept.new.rows.items c.push_all_made.new.rows.items (shown_lines c.deref.result.now) none (c.in_ok-push_all_kept.ensures.rows kept is are.given) c.in_ok-push_all_made.ensures.rows (search rules))
    c.in_ok-sort_rows.ensures.permutation c.in_ok-sort_rows.ensures.sorted
