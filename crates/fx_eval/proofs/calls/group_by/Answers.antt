use Rattle.std.proofs.Common.{◌∙◌, ap, subst, sym}
use Rattle.std.proofs.lemmas.Result.{IfOk-weaker}
use Rattle.std.proofs.lemmas.Str.{chars-nil}
use Rattle.fx_tables.specs.Groups.{CanGroup, grouped_or}
use Rattle.fx_eval.proofs.GroupNames.{group_can, group_is, none_can, none_is}
use Rattle.fx_eval.proofs.calls.group_by.Goals as goal

pub group-requires-in-len1-up : goal.group-requires-in-len1-up
group-requires-in-len1-up c = group_can c.args.names.now c.args.rows _ c.group-item.result c.in-len1-up.len_at_least (c.as_str.ensures.scalars ∙ c.group-item.is) c.requires

pub returns-in-len1-up : goal.returns-in-len1-up
returns-in-len1-up c =
    IfOk-weaker c.group-in-len1-up.result _ _
    (λ v e. e ∙ group_is c.args.names.now c.args.rows _ c.group-item.result c.in-len1-up.len_at_least (c.as_str.ensures.scalars ∙ c.group-item.is)) c.group-in-len1-up.ensures

pub group-requires : goal.group-requires
group-requires c =
    subst (λ x. CanGroup c.args.names.now x c.args.rows) (sym chars-nil) (none_can c.args.names.now c.args.rows c.in-empty.len_below c.requires)

pub returns-in-empty : goal.returns-in-empty
returns-in-empty c = IfOk-weaker c.group.result _ _
    (λ v e. e ∙ (ap (λ x. grouped_or c.args.names.now x c.args.rows) chars-nil ∙ none_is c.args.names.now c.args.rows c.in-empty.len_below)) c.group.ensures
