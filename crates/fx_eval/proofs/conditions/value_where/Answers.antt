use Rattle.std.proofs.Common.{◌∙◌, ap, map, sym}
use Rattle.std.specs.List.{list_all}
use Rattle.fx_types.specs.ValueView.{view}
use Rattle.fx_tables.specs.RowCalls.{holds}
use Rattle.fx_eval.proofs.Turns.{no_error_found}
use Rattle.fx_eval.specs.TableCalls.{value_found}
use Rattle.fx_eval.proofs.conditions.value_where.Goals as goal

pub returns-else-is_error : goal.returns-else-is_error
returns-else-is_error c =
    let cs = map view c.args.conditions.items in
    let ds = map view c.args.values.items in
    let found = c.first_that_holds-found.ensures ∙ ap (λ vs. value_found (map view vs) ds) c.as_slice.ensures.value in
    found ∙ no_error_found cs (list_all holds cs) (view c.verdict-verdict.result) (value_found cs ds) c.verdict-verdict.ensures.value (sym c.is_error.ensures ∙ c.if-is_error.false)
