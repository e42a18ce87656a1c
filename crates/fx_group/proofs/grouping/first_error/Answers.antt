use Rattle.fx_group.proofs.FirstErrors.{in_row, none_found, past_row}
use Rattle.fx_group.proofs.grouping.first_error.Goals as goal

pub loop-row-preserved : goal.loop-row-preserved
loop-row-preserved c =
    past_row c.args.keys.now c.args.rows.now c.loop-row.row-index c.row-item.result _ c.loop-row-test.true c.row-item.is (none_found _ c.error_in.result c.in_default.not-Some c.error_in.ensures) c.loop-row.invariant

pub returns-in-Some : goal.returns-in-Some
returns-in-Some c =
    in_row c.args.keys.now c.args.rows.now c.loop-row.row-index c.row-item.result _ _ c.loop-row-test.true c.row-item.is c.in-Some.ensures c.loop-row.invariant
