use Rattle.store_reading.proofs.DecodeLemmas.{kept_step}
use Rattle.store_reading.proofs.decoding.push_all_kept.Goals as goal

pub loop-line-preserved : goal.loop-line-preserved
loop-line-preserved c = record {
  held = c.push_kept.ensures.held;
  so_far = kept_step c.args.changes.now c.args.table.now.columns c.args.lines.now c.loop-line.line-index c.line-item.result c.args.rows.now.items c.loop-line.rows.items c.push_kept.new.rows.items c.loop-line-test.true c.line-item.is
      c.in_ok-push_kept.ensures.row c.loop-line.invariant.so_far;
}
