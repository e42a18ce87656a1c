use Rattle.fx_value.specs.Columns.{fields_without}
use Rattle.fx_tables.proofs.ColumnSteps.{step_rows}
use Rattle.fx_tables.proofs.columns.rows_without.Goals as goal

pub loop-row-preserved : goal.loop-row-preserved
loop-row-preserved c = rw c.in_ok-push.ensures.items (step_rows (fields_without c.args.name.now) c.loop-row.kept.items c.in-Some.row c.next.new.self.rest.items _ _ _ c.in-Some.ensures.steps.0 c.take_field-others.ensures.others c.loop-row.invariant)
