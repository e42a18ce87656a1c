use Rattle.std.proofs.lemmas.List.{nil_from_length}
use Rattle.fx_deeds.proofs.Lefting.{records_end, records_more}
use Rattle.fx_deeds.proofs.filtering.records.Goals as goal

pub loop-row-preserved : goal.loop-row-preserved
loop-row-preserved c =
    records_more c.args.rows.now c.loop-row.rest.now c.in-Some.others.now _ _ c.in-Some.row.now c.in_ok-copy.field-0 c.in-Some.ensures.cases.0 c.in_ok-copy.ensures c.in_ok-push.ensures.items c.loop-row.invariant

pub returns : goal.returns
returns c = records_end c.args.rows.now c.loop-row.rest.now _ (nil_from_length _ c.in_default.ensures.cases) c.loop-row.invariant
