use Rattle.std.proofs.Common.{arith, map, subst, sym, ◌∙◌}
use Rattle.std.proofs.lemmas.Result.{err_from_is_err_and}
use Rattle.fx_types.specs.TypeView.{shape}
use Rattle.fx_types.specs.Types.{column_list}
use Rattle.fx_core.specs.ColumnLists.{field_in}
use Rattle.fx_typing.specs.Answers.{IsAnswerOf}
use Rattle.fx_typing.specs.Columns.{grouped}
use Rattle.fx_typing.specs.TypedView.{typed}
use Rattle.fx_typing.proofs.GroupNames.{group_named, group_unnamed, groups_under, name_free, name_taken}
use Rattle.fx_typing.proofs.Pairs.{named}
use Rattle.fx_typing.proofs.Stops.{stops}
use Rattle.fx_typing.proofs.columns.group_columns.Goals as goal

pub returns-in_err-group : goal.returns-in_err-group
returns-in_err-group c =
    let p = err_from_is_err_and c.from_residual.result c.from_residual.ensures.1 in
    let xs = c.args.parts.now in
    let cs = column_list c.args.columns in
    rw (p.1, p.2)
    (stops (λ w. w) column_list (named c.last-item.result.core) (grouped (map typed xs) cs) c.in_err-group.field-0.0
    (λ k e. group_unnamed xs c.last-item.result cs k (omega (arith, c.in-len1-up.len_at_least)) c.last-item.is e) c.in_err-group.ensures)

pub returns-then-is_some : goal.returns-then-is_some
returns-then-is_some c =
    let xs = c.args.parts.now in
    let cs = column_list c.args.columns in
    let n = c.in_ok-group.group in
    group_named xs c.last-item.result cs n (omega (arith, c.in-len1-up.len_at_least)) c.last-item.is c.in_ok-group.ensures
    ∙ name_taken (λ t. shape t.now) c.field_in.result (field_in n cs) cs (groups_under n xs) c.field_in.ensures (sym c.if-is_some.ensures)

pub returns : goal.returns
returns c =
    let xs = c.args.parts.now in
    let cs = column_list c.args.columns in
    let n = c.in_ok-group.group in
    let same = group_named xs c.last-item.result cs n (omega (arith, c.in-len1-up.len_at_least)) c.last-item.is c.in_ok-group.ensures
    ∙ name_free (λ t. shape t.now) c.field_in.result (field_in n cs) cs (groups_under n xs) c.field_in.ensures (sym c.if-is_some.ensures) in
    subst (λ r. IsAnswerOf column_list r c.group_under.result) (sym same) c.group_under.ensures
