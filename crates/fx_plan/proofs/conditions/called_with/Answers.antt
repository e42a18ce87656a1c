use Rattle.std.proofs.Common.{ap, ◌∙◌}
use Rattle.std.proofs.lemmas.Result.{IfOk-weaker}
use Rattle.fx_plan.proofs.Delegable.{compared_else}
use Rattle.fx_plan.proofs.conditions.called_with.Goals as goal
use Rattle.fx_plan.specs.QueryExpressions.{comparison_pattern}

pub returns-in_default : goal.returns-in_default
returns-in_default c =
    IfOk-weaker c.comparison_pattern.result _ _
    (λ r h. h ∙ ap (λ m. comparison_pattern c.args.table.now c.args.scope m c.args.left.now c.args.right.now c.args.constants.now) c.comparison_by.ensures
    ∙ compared_else c.args.table.now c.args.scope c.args.fun c.args.left.now c.args.right.now c.args.constants.now c.in_default.not-StartsWith c.in_default.not-In)
    c.comparison_pattern.ensures
