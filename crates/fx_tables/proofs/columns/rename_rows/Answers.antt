use Rattle.std.proofs.Common.{◌≡◌, ◌∙◌, ap, None}
use Rattle.std.proofs.lemmas.List.Elements.{All-rest}
use Rattle.fx_types.specs.Lookup.{item_named}
use Rattle.fx_value.specs.Columns.{Row, field_renamed}
use Rattle.fx_tables.proofs.ColumnSteps.{step_rows}
use Rattle.fx_tables.proofs.columns.rename_rows.Goals as goal

pub loop-row-preserved : goal.loop-row-preserved
loop-row-preserved c =
    let rest = c.next.new.self.rest.items in
    let left = c.in-Some.ensures.steps.0 in
    record {
      value = rw c.in_ok-push.ensures.items (step_rows (field_renamed c.args.from.now c.args.to.now) c.loop-row.changed.items c.in-Some.row rest _ _ _ left (c.in_ok-rename_field.ensures ∙ ap (λ m. field_renamed c.args.from.now m c.in-Some.row) c.in_ok-copy.ensures) c.loop-row.invariant.value);
      lacks = All-rest (λ (r : Row). item_named c.args.to.now r ≡ None) c.in-Some.row rest _ left c.loop-row.invariant.lacks;
    }
