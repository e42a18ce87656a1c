use Rattle.std.proofs.Common.{◌∙◌, ap}
use Rattle.fx_types.specs.declared.values.Value.TheVariants.{Rec}
use Rattle.fx_types.specs.Types.{column_list}
use Rattle.fx_semantics.specs.Around.{record_of}
use Rattle.fx_deeds.proofs.Updating.{first_can, is_first}
use Rattle.fx_deeds.proofs.updates.changed_if_first.Goals as goal

pub changed_row-requires : goal.changed_row-requires
changed_row-requires c =
    first_can (column_list c.args.columns.now) c.args.row.now c.args.kept.now c.args.changes.now _ (Rec c.in_ok-copy.field-0) c.in-Some.change.now c.new.result c.as_slice.result.now c.in-Some.ensures.cases.0 c.new.ensures (c.as_slice.ensures ∙ c.in_ok-changes.ensures)
    (ap record_of c.in_ok-copy.ensures) (c.is_first.ensures.yes c.if-not-is_first.false) c.requires.can

pub returns-clause-first : goal.returns-clause-first
returns-clause-first c =
    is_first (column_list c.args.columns.now) c.args.row.now c.in_ok-changed_row.field-0 c.args.kept.now c.args.changes.now _ (Rec c.in_ok-copy.field-0) c.in-Some.change.now c.new.result c.as_slice.result.now c.in-Some.ensures.cases.0 c.new.ensures (c.as_slice.ensures ∙ c.in_ok-changes.ensures)
    (ap record_of c.in_ok-copy.ensures) (c.is_first.ensures.yes c.if-not-is_first.false) c.in_ok-changed_row.ensures.row
