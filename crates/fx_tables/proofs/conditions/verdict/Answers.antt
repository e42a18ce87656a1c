use Rattle.std.proofs.Common.{◌∙◌, ap, map}
use Rattle.std.specs.List.{list_all}
use Rattle.fx_types.specs.Values.{boolean}
use Rattle.fx_types.specs.ValueView.{view}
use Rattle.fx_tables.specs.RowCalls.{holds}
use Rattle.fx_tables.proofs.FirstErrors.{error_is, none_is}
use Rattle.fx_tables.proofs.KeptRows.{all_seen}
use Rattle.fx_tables.proofs.conditions.verdict.Goals as goal

pub returns-in-Ok-clause-value : goal.returns-in-Ok-clause-value
returns-in-Ok-clause-value c =
    let vs = c.args.conditions.items in
    let same = c.as_slice.ensures.value ∙ c.in-Ok.ensures.0 in
    ap boolean (c.all_hold.ensures ∙ all_seen c.as_slice.result.now ∙ ap (λ us. list_all holds (map view us)) same)
    ∙ none_is (map view vs) (boolean (list_all holds (map view vs))) c.in-Ok.ensures.1

pub returns-in-Err-clause-value : goal.returns-in-Err-clause-value
returns-in-Err-clause-value c = error_is (map view c.args.conditions.items) (boolean (list_all holds (map view c.args.conditions.items))) _ c.in-Err.ensures
