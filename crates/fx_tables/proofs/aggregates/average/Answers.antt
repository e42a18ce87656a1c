use Rattle.std.proofs.Common.{◌≡◌, ◌∙◌, ap, map}
use Rattle.fx_types.specs.ValueView.{view}
use Rattle.fx_primitives.specs.Folds.{nonblank, average_of}
use Rattle.fx_value.specs.Aggregates.{numbers_in}
use Rattle.fx_tables.specs.AggregateCalls.{number_or_blank}
use Rattle.fx_tables.proofs.FirstErrors.{error_is, none_is}
use Rattle.fx_tables.proofs.aggregates.average.Goals as goal

pub returns-in_ok-numbers-in-Ok-clause-value : goal.returns-in_ok-numbers-in-Ok-clause-value
returns-in_ok-numbers-in-Ok-clause-value c =
    let vs = map view c.args.values.items in
    let zs = numbers_in vs in
    let found : nonblank c.as_slice-in-Ok.result.now ≡ zs =
    ap nonblank c.as_slice-in-Ok.ensures.value ∙ c.in_ok-numbers-in-Ok.ensures
    ∙ ap (λ us. numbers_in (map view us)) (c.as_slice.ensures.value ∙ c.in-Ok.ensures.0) in
    c.value_of.ensures.value ∙ ap number_or_blank (c.average.ensures ∙ ap average_of found)
    ∙ none_is vs (number_or_blank (average_of zs)) c.in-Ok.ensures.1

pub returns-in-Err-clause-value : goal.returns-in-Err-clause-value
returns-in-Err-clause-value c = error_is (map view c.args.values.items) (number_or_blank (average_of (numbers_in (map view c.args.values.items)))) _ c.in-Err.ensures
