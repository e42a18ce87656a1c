use Rattle.std.proofs.Common.{arith}
use Rattle.sql_meanings.specs.Lines.{is_within}
use Rattle.row_changes.specs.Overlay.{shown_lines}
use Rattle.row_changes.proofs.LineLemmas.{added_step}
use Rattle.row_changes.proofs.table.TableChanges.push_added.Goals as goal

pub loop-body-preserved : goal.loop-body-preserved
loop-body-preserved c = record {
  counted = omega arith;
  written =
      added_step (is_within c.args.low c.args.high) (shown_lines c.args.lines.now.items) (shown_lines c.loop-body.lines.items) (shown_lines c.push_line.new.lines.items) c.args.self.now.first c.loop-body.last c.loop-body.body-index
      c.deref-body-items.result.now c.args.self.now.added.items c.body-item.result c.deref-body-items.ensures.value c.loop-body-test.true c.body-item.is c.loop-body.invariant.counted c.loop-body.invariant.written c.in_ok-push_line.ensures;
}
