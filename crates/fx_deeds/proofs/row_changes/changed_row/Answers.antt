use Rattle.std.proofs.lemmas.List.{nil_from_length}
use Rattle.fx_types.specs.ValueView.{view}
use Rattle.fx_deeds.proofs.RowSteps.{change_goes, changed_rises}
use Rattle.fx_deeds.proofs.row_changes.changed_row.Goals as goal

pub loop-column-preserved : goal.loop-column-preserved
loop-column-preserved c =
    change_goes c.args.columns.now c.args.changes.now c.args.row.now c.loop-column.items.items c.push.new.self.items c.loop-column.rest.now c.in-Some.others.now c.in-Some.column.now c.in_ok-copy.field-0 c.in_ok-widen.field-0
    (view c.in_ok-value.value) (view c.in_ok-value-2.value) c.loop-column.invariant c.in-Some.ensures.cases.0 c.in_ok-push.ensures.items c.in_ok-copy.ensures c.in_ok-value.ensures c.in_ok-value-2.ensures c.in_ok-widen.ensures.value
    c.in_ok-widen.ensures.fits

pub from_rising-requires : goal.from_rising-requires
from_rising-requires c =
    changed_rises c.args.columns.now c.args.changes.now c.args.row.now c.loop-column.items.items c.loop-column.rest.now c.loop-column.invariant (nil_from_length _ c.in_default.ensures.cases) c.as_slice-rest.ensures.rising
