use Rattle.fx_deeds.proofs.RowSteps.{among_first, among_more}
use Rattle.fx_deeds.proofs.row_changes.error_among.Goals as goal

pub returns-in-Some-2 : goal.returns-in-Some-2
returns-in-Some-2 c = among_first c.loop-change.rest.now c.in-Some.others.now c.in-Some.change.now c.in_ok-error.field-0 c.in-Some-2.error _ c.loop-change.invariant c.in-Some.ensures.cases.0 c.in_ok-error.ensures c.in-Some-2.is

pub loop-change-preserved : goal.loop-change-preserved
loop-change-preserved c = among_more c.loop-change.rest.now c.in-Some.others.now c.in-Some.change.now c.in_ok-error.field-0 _ c.loop-change.invariant c.in-Some.ensures.cases.0 c.in_ok-error.ensures c.in_default-2.not-Some
