use Rattle.std.proofs.Common.{◌≡◌, ◌∙◌, ap, map, subst, List, ℤ, IfOk}
use Rattle.fx_types.specs.ValueView.{view}
use Rattle.fx_primitives.specs.Folds.{nonblank}
use Rattle.fx_value.specs.Aggregates.{numbers_in}
use Rattle.fx_tables.specs.AggregateCalls.{IsSumValue}
use Rattle.fx_tables.proofs.FirstErrors.{call_meets, error_meets}
use Rattle.fx_tables.proofs.aggregates.sum.Goals as goal

pub returns-in_ok-numbers-in-Ok-clause-value : goal.returns-in_ok-numbers-in-Ok-clause-value
returns-in_ok-numbers-in-Ok-clause-value c =
    let vs = map view c.args.values.items in
    let zs = numbers_in vs in
    let found : nonblank c.as_slice-in-Ok.result.now ≡ zs =
    ap nonblank c.as_slice-in-Ok.ensures.value ∙ c.in_ok-numbers-in-Ok.ensures
    ∙ ap (λ us. numbers_in (map view us)) (c.as_slice.ensures.value ∙ c.in-Ok.ensures.0) in
    let P : List ℤ → Type 0 = λ ys. IfOk c.sum_of.result (λ v. IsSumValue ys (view v)) in
    call_meets vs (IsSumValue zs) c.sum_of.result c.in-Ok.ensures.1 (subst P found c.sum_of.ensures.value)

pub returns-in-Err-clause-value : goal.returns-in-Err-clause-value
returns-in-Err-clause-value c = error_meets (map view c.args.values.items) (IsSumValue (numbers_in (map view c.args.values.items))) _ c.in-Err.ensures
