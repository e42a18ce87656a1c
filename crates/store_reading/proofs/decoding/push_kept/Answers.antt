use Rattle.std.proofs.Common.{ap}
use Rattle.row_changes.specs.Overlay.{shown}
use Rattle.std.proofs.Common.{None}
use Rattle.store_reading.proofs.DecodeLemmas.{on_ok, row_gone, row_kept, row_made}
use Rattle.store_reading.proofs.decoding.push_kept.Goals as goal

pub returns-in-Same-clause-row : goal.returns-in-Same-clause-row
returns-in-Same-clause-row c =
    on_ok c.push_row.result (λ pushed x is low. row_kept c.args.changes.now c.args.table.now.columns c.args.line.now c.in-Some.id c.in-Some-bytes_in.body.now x c.args.rows.now.items c.push_row.new.rows.items c.in-Some.ensures c.in-Some-bytes_in.ensures.some is low
    c.made.result c.made.ensures c.in-Same.is pushed) c.push_row.ensures.row

pub returns-in-Gone-clause-row : goal.returns-in-Gone-clause-row
returns-in-Gone-clause-row c = λ x is low.
    row_gone c.args.changes.now c.args.table.now.columns c.args.line.now c.in-Some.id c.in-Some-bytes_in.body.now x c.args.rows.now.items c.in-Some.ensures c.in-Some-bytes_in.ensures.some is low c.made.result None c.made.ensures (ap shown c.in-Gone.is)

pub returns-in-Body-clause-row : goal.returns-in-Body-clause-row
returns-in-Body-clause-row c = λ x is low.
    row_made c.args.changes.now c.args.table.now.columns c.args.line.now c.in-Some.id c.in-Some-bytes_in.body.now x c.args.rows.now.items c.in-Some.ensures c.in-Some-bytes_in.ensures.some is low c.made.result _ c.made.ensures c.in-Body.is
