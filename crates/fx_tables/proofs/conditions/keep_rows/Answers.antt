use Rattle.std.proofs.Common.{ap, length, arith}
use Rattle.fx_tables.proofs.KeptRows.{step_kept}
use Rattle.fx_tables.proofs.conditions.keep_rows.Goals as goal

pub loop-row-preserved : goal.loop-row-preserved
loop-row-preserved c =
    let rest = c.next.new.self.rest.items in
    let rows = c.in-Some.ensures.steps.0 in
    let values = c.in-Some-next.ensures.items in
    record {
      value = step_kept c.loop-row.held.items _ c.in-Some.row rest c.loop-row.row-iterator.rest.items c.in-Some-next.condition c.next-in-loop-row.new.self.rest.items c.loop-row.left.rest.items _ rows values c.in_ok-keep.ensures c.loop-row.invariant.value;
      long = omega (arith, c.loop-row.invariant.long, ap length rows, ap length values);
    }
