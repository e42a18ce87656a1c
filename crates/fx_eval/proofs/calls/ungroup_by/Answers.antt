use Rattle.std.proofs.Common.{◌∙◌, ap, subst, sym}
use Rattle.std.proofs.lemmas.Result.{IfOk-weaker}
use Rattle.std.proofs.lemmas.Str.{chars-nil}
use Rattle.fx_tables.specs.Groups.{CanUngroup, ungrouped_or}
use Rattle.fx_eval.proofs.GroupNames.{ungroup_can, ungroup_is, none_can_come, none_come}
use Rattle.fx_eval.proofs.calls.ungroup_by.Goals as goal

pub ungroup-requires-in-len1-up : goal.ungroup-requires-in-len1-up
ungroup-requires-in-len1-up c = ungroup_can c.args.names.now c.args.rows _ c.group-item.result c.in-len1-up.len_at_least (c.as_str.ensures.scalars ∙ c.group-item.is) c.requires

pub returns-in-len1-up : goal.returns-in-len1-up
returns-in-len1-up c =
    IfOk-weaker c.ungroup-in-len1-up.result _ _
    (λ v e. e ∙ ungroup_is c.args.names.now c.args.rows _ c.group-item.result c.in-len1-up.len_at_least (c.as_str.ensures.scalars ∙ c.group-item.is)) c.ungroup-in-len1-up.ensures

pub ungroup-requires : goal.ungroup-requires
ungroup-requires c =
    subst (λ x. CanUngroup x c.args.rows) (sym chars-nil) (none_can_come c.args.names.now c.args.rows c.in-empty.len_below c.requires)

pub returns-in-empty : goal.returns-in-empty
returns-in-empty c = IfOk-weaker c.ungroup.result _ _
    (λ v e. e ∙ (ap (λ x. ungrouped_or x c.args.rows) chars-nil ∙ none_come c.args.names.now c.args.rows c.in-empty.len_below)) c.ungroup.ensures
