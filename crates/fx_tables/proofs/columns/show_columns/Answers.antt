use Rattle.fx_value.specs.Columns.{fields_only}
use Rattle.fx_tables.proofs.ColumnSteps.{step_rows}
use Rattle.fx_tables.proofs.columns.show_columns.Goals as goal

pub loop-row-preserved : goal.loop-row-preserved
loop-row-preserved c = rw c.in_ok-push.ensures.items (step_rows (fields_only c.args.names.now) c.loop-row.shown.items c.in-Some.row c.next.new.self.rest.items _ _ _ c.in-Some.ensures.steps.0 c.only.ensures c.loop-row.invariant)
