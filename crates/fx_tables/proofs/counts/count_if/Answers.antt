use Rattle.std.proofs.Common.{◌∙◌, ℕ, ap, map, length, subst, IfOk}
use Rattle.std.specs.List.{filter}
use Rattle.fx_types.specs.ValueView.{view}
use Rattle.fx_tables.specs.RowCalls.{IsCountValue, holds}
use Rattle.fx_tables.proofs.FirstErrors.{call_meets, error_meets}
use Rattle.fx_tables.proofs.counts.count_if.Goals as goal

pub returns-in-Ok-clause-value : goal.returns-in-Ok-clause-value
returns-in-Ok-clause-value c =
    let vs = c.args.conditions.items in
    let same = c.as_slice.ensures.value ∙ c.in-Ok.ensures.0 in
    let count = c.count_of.ensures ∙ ap (λ us. length (filter holds (map view us))) same in
    let P : ℕ → Type 0 = λ n. IfOk c.count_value.result (λ v. IsCountValue n (view v)) in
    call_meets (map view vs) (IsCountValue (length (filter holds (map view vs)))) c.count_value.result c.in-Ok.ensures.1 (subst P count c.count_value.ensures.value)

pub returns-in-Err-clause-value : goal.returns-in-Err-clause-value
returns-in-Err-clause-value c = error_meets (map view c.args.conditions.items) (IsCountValue (length (filter holds (map view c.args.conditions.items)))) _ c.in-Err.ensures
