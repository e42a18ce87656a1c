use Rattle.std.proofs.Common.{◌∙◌, ℕ, List, subst, sym}
use Rattle.std.proofs.lemmas.List.{length-map}
use Rattle.fx_types.specs.ValueView.{view}
use Rattle.fx_value.specs.Columns.{LacksColumn}
use Rattle.fx_tables.proofs.ColumnTurns.{can_add_rest, next_new, step_added}
use Rattle.fx_tables.proofs.column_calls.rows_with.Goals as goal

pub add_column-requires : goal.add_column-requires
add_column-requires c =
    let rest = c.next.new.self.rest.items in
    let x = c.in-Some.column in
    let here = next_new c.loop-column.column-iterator.rest.items rest x c.loop-column.wider c.in-Some.ensures.steps.0 c.loop-column.invariant.free in
    record {
      new = subst (λ (n : List ℕ). LacksColumn n c.loop-column.wider) (sym c.as_str.ensures.scalars) here.0;
      long = sym (length-map x.values.items view) ∙ here.1;
    }

pub loop-column-preserved : goal.loop-column-preserved
loop-column-preserved c =
    let left = c.loop-column.column-iterator.rest.items in
    let rest = c.next.new.self.rest.items in
    let x = c.in-Some.column in
    let rows = c.loop-column.wider in
    let steps = c.in-Some.ensures.steps.0 in
    record {
      value = step_added left rest x _ rows c.in_ok-wider.wider _ steps c.as_str.ensures.scalars c.in_ok-wider.ensures c.loop-column.invariant.value;
      free = can_add_rest left rest x _ rows c.in_ok-wider.wider steps c.as_str.ensures.scalars c.in_ok-wider.ensures c.loop-column.invariant.free;
    }
