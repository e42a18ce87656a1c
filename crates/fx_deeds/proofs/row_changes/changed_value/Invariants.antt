use Rattle.std.proofs.Common.{◌≡◌, length}
use Rattle.fx_types.specs.ValueView.{view}
use Rattle.fx_deeds.specs.RowValues.{changed_value}
use Rattle.fx_deeds.proofs.row_changes.changed_value.Given as goal

abbrev pub invariant-loop-change : goal.invariant-loop-change
invariant-loop-change l = changed_value l.name l.rest (view l.value) ≡ changed_value l.name l.changes (view l.fn.value)

abbrev pub decreases-loop-change : goal.decreases-loop-change
decreases-loop-change l = length l.rest
