use Rattle.std.proofs.Common.{◌≡◌, ◌∙◌, ap, map, subst, sym, List, ℤ}
use Rattle.fx_types.specs.ValueView.{view}
use Rattle.fx_primitives.specs.Folds.{IsGreatest, nonblank}
use Rattle.fx_value.specs.Aggregates.{numbers_in}
use Rattle.fx_tables.specs.AggregateCalls.{IsNumberOrBlank}
use Rattle.fx_tables.proofs.FirstErrors.{error_meets, none_meets}
use Rattle.fx_tables.proofs.Numbers.{as_value}
use Rattle.fx_tables.proofs.aggregates.max.Goals as goal

pub returns-in_ok-numbers-in-Ok-clause-value : goal.returns-in_ok-numbers-in-Ok-clause-value
returns-in_ok-numbers-in-Ok-clause-value c =
    let vs = map view c.args.values.items in
    let zs = numbers_in vs in
    let found : nonblank c.as_slice-in-Ok.result.now ≡ zs =
    ap nonblank c.as_slice-in-Ok.ensures.value ∙ c.in_ok-numbers-in-Ok.ensures
    ∙ ap (λ us. numbers_in (map view us)) (c.as_slice.ensures.value ∙ c.in-Ok.ensures.0) in
    let P : List ℤ → Type 0 = λ ys. IsGreatest ys c.max.result in
    let value = as_value (IsGreatest zs) c.max.result (subst P found c.max.ensures) in
    none_meets vs (IsNumberOrBlank (IsGreatest zs)) (view c.value_of.result) c.in-Ok.ensures.1
    (subst (IsNumberOrBlank (IsGreatest zs)) (sym c.value_of.ensures.value) value)

pub returns-in-Err-clause-value : goal.returns-in-Err-clause-value
returns-in-Err-clause-value c =
    error_meets (map view c.args.values.items) (IsNumberOrBlank (IsGreatest (numbers_in (map view c.args.values.items)))) _ c.in-Err.ensures
