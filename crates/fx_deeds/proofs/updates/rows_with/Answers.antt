use Rattle.std.proofs.lemmas.List.{nil_from_length}
use Rattle.fx_types.specs.Types.{column_list}
use Rattle.fx_deeds.proofs.Updating.{with_ends, with_fits, with_stays, with_takes}
use Rattle.fx_deeds.proofs.updates.rows_with.Goals as goal

pub loop-row-preserved-in-Some-2 : goal.loop-row-preserved-in-Some-2
loop-row-preserved-in-Some-2 c =
    with_takes (column_list c.args.columns.now) c.args.rows.now c.loop-row.made c.push.new.self c.loop-row.rest.now c.in-Some.others.now c.args.kept.now c.args.changes.now c.loop-row.wanted.now c.loop-row.left.now
    c.behind_first-wanted.result.now c.behind_first-left.result.now c.in-Some.row.now c.in-Some-2.changed c.in_ok-changed.field-0 c.in-Some.ensures.cases.0 c.in-Some-2.is c.in_ok-push-in-Some-2.ensures.ok
    c.behind_first-wanted.ensures c.behind_first-left.ensures c.in_ok-changed.ensures.first c.in_ok-changed.ensures.fits c.loop-row.invariant

pub loop-row-preserved : goal.loop-row-preserved
loop-row-preserved c =
    with_stays (column_list c.args.columns.now) c.args.rows.now c.loop-row.made c.push-in-None.new.self c.loop-row.rest.now c.in-Some.others.now c.args.kept.now c.args.changes.now c.loop-row.wanted.now c.loop-row.left.now
    c.in-Some.row.now c.in_ok-copy-in-None.field-0 c.in_ok-changed.field-0 c.in-Some.ensures.cases.0 c.in-None.is c.in_ok-copy-in-None.ensures c.in_ok-push-in-None.ensures.ok c.in_ok-changed.ensures.first c.loop-row.invariant

pub returns-clause-with : goal.returns-clause-with
returns-clause-with c =
    with_ends (column_list c.args.columns.now) c.args.rows.now c.loop-row.made c.loop-row.rest.now c.args.kept.now c.args.changes.now c.loop-row.wanted.now c.loop-row.left.now (nil_from_length _ c.in_default.ensures.cases) c.loop-row.invariant

pub returns-clause-fits : goal.returns-clause-fits
returns-clause-fits c =
    with_fits (column_list c.args.columns.now) c.args.rows.now c.loop-row.made c.loop-row.rest.now c.args.kept.now c.args.changes.now c.loop-row.wanted.now c.loop-row.left.now c.loop-row.invariant
