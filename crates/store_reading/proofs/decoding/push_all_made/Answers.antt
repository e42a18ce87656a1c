use Rattle.store_reading.proofs.DecodeLemmas.{made_step}
use Rattle.store_reading.proofs.decoding.push_all_made.Goals as goal

pub loop-line-preserved : goal.loop-line-preserved
loop-line-preserved c = record {
  held = c.push_row.ensures.held;
  so_far = made_step c.args.table.now.columns c.args.lines.now c.loop-line.line-index _ c.args.rows.now.items c.loop-line.rows.items c.push_row.new.rows.items c.loop-line-test.true c.in_ok-push_row.ensures.row c.loop-line.invariant.so_far;
}
