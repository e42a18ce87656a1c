use Rattle.fx_types.specs.ValueView.{view}
use Rattle.fx_deeds.proofs.Gathering.{part_first, part_goes}
use Rattle.fx_deeds.proofs.collections.part.Goals as goal

pub returns-then-branch : goal.returns-then-branch
returns-then-branch c =
    part_first c.args.rows.now c.loop-row.before c.loop-row.rest.now c.in-Some.others.now c.new.result c.in_ok-after.after (view c.args.sought.now) c.in-Some.row.now c.in_ok-is_row.field-0 c.loop-row.invariant c.in-Some.ensures.cases.0
    c.new.ensures c.in_ok-after.ensures c.in_ok-is_row.ensures c.if-branch.true

pub loop-row-preserved : goal.loop-row-preserved
loop-row-preserved c =
    part_goes c.args.rows.now c.loop-row.before c.push.new.self c.loop-row.rest.now c.in-Some.others.now (view c.args.sought.now) c.in-Some.row.now c.in_ok-copy.field-0 c.in_ok-is_row.field-0 c.loop-row.invariant c.in-Some.ensures.cases.0
    c.in_ok-copy.ensures c.in_ok-push.ensures.ok c.in_ok-is_row.ensures c.if-branch.false
