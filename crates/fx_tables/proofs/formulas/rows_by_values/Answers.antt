use Rattle.std.proofs.Common.{◌∙◌, ◌++◌, ◌∷◌, [], ap, sym, append_assoc}
use Rattle.fx_tables.proofs.ValueRows.{step_rows}
use Rattle.fx_tables.proofs.formulas.rows_by_values.Goals as goal

pub loop-value-preserved : goal.loop-value-preserved
loop-value-preserved c =
    let done = c.loop-value.yielded in
    let v = c.in-Some.value in
    let rest = c.next.new.self.rest.items in
    record {
      all = append_assoc done (v ∷ []) rest ∙ ap (λ z. done ++ z) (sym c.in-Some.ensures.steps.0) ∙ c.loop-value.invariant.all;
      value = step_rows c.loop-value.rows.items done c.in_ok-row_of.field-0 _ v c.in_ok-push.ensures.items c.loop-value.invariant.value c.in_ok-row_of.ensures;
    }
