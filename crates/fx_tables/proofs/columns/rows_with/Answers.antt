use Rattle.std.proofs.Common.{◌≡◌, ◌∙◌, ap, None, length, arith}
use Rattle.std.proofs.lemmas.List.Elements.{All-rest}
use Rattle.fx_types.specs.Lookup.{item_named}
use Rattle.fx_types.specs.ValueView.{view}
use Rattle.fx_value.specs.Columns.{Row, with_field}
use Rattle.fx_tables.proofs.ColumnSteps.{step_with}
use Rattle.fx_tables.proofs.columns.rows_with.Goals as goal

pub loop-row-preserved : goal.loop-row-preserved
loop-row-preserved c =
    let rest = c.next.new.self.rest.items in
    let left = c.in-Some.ensures.steps.0 in
    let values = c.in-Some-next.ensures.items in
    let n = c.args.name.now in
    let v = c.in-Some-next.value in
    let made = c.in_ok-with_field.ensures ∙ ap (λ m. with_field m (view v) c.in-Some.row) c.in_ok-name.ensures in
    record {
      value = rw c.in_ok-push.ensures.items (step_with n c.loop-row.wider.items c.in-Some.row rest c.loop-row.row-iterator.rest.items v c.next-in-loop-row.new.self.rest.items c.loop-row.left.rest.items _ _ left values made c.loop-row.invariant.value);
      lacks = All-rest (λ (r : Row). item_named n r ≡ None) c.in-Some.row rest _ left c.loop-row.invariant.lacks;
      long = omega (arith, c.loop-row.invariant.long, ap length left, ap length values);
    }
