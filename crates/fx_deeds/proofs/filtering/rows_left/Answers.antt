use Rattle.std.proofs.Common.{ap}
use Rattle.std.proofs.lemmas.List.{nil_from_length}
use Rattle.fx_types.specs.declared.values.Value.TheVariants.{Rec}
use Rattle.fx_semantics.specs.Around.{record_of}
use Rattle.fx_deeds.proofs.Lefting.{left_ends, left_start, left_stays, left_takes, still_records}
use Rattle.fx_deeds.proofs.filtering.rows_left.Goals as goal

pub loop-row-init : goal.loop-row-init
loop-row-init c = record { records = c.requires; left = left_start c.args.rows.now _ c.args.kept.now c.new-left.ensures }

pub loop-row-preserved-then-is_first : goal.loop-row-preserved-then-is_first
loop-row-preserved-then-is_first c = record {
  records = still_records c.loop-row.wanted.now c.behind_first-wanted.result.now c.behind_first-wanted.ensures c.loop-row.invariant.records;
  left = left_takes c.args.rows.now c.loop-row.left c.loop-row.rest.now c.in-Some.others.now c.args.kept.now c.loop-row.wanted.now c.behind_first-wanted.result.now c.in-Some.row.now (Rec c.in_ok-copy.field-0)
      c.in-Some.ensures.cases.0 (ap record_of c.in_ok-copy.ensures) c.behind_first-wanted.ensures (c.is_first.ensures.yes c.if-is_first.true) c.loop-row.invariant.left;
}

pub loop-row-preserved : goal.loop-row-preserved
loop-row-preserved c = record {
  records = c.loop-row.invariant.records;
  left = left_stays c.args.rows.now c.loop-row.left c.push.new.self c.loop-row.rest.now c.in-Some.others.now c.args.kept.now c.loop-row.wanted.now c.in-Some.row.now c.in_ok-copy-2.field-0 (Rec c.in_ok-copy.field-0)
      c.loop-row.invariant.records c.in-Some.ensures.cases.0 (ap record_of c.in_ok-copy.ensures) c.in_ok-copy-2.ensures c.in_ok-push.ensures.ok (c.is_first.ensures.no c.if-is_first.false) c.loop-row.invariant.left;
}

pub returns : goal.returns
returns c = left_ends c.args.rows.now _ _ c.args.kept.now c.loop-row.wanted.now (nil_from_length _ c.in_default.ensures.cases) c.loop-row.invariant.left
