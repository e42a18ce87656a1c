use Rattle.app_reports.specs.Plans.{plan_text}
use Rattle.app_reports.proofs.PlanFloats.{plan_has_none}
use Rattle.app_reports.proofs.plan.plan_json.Goals as goal

pub returns : goal.returns
unfolding plan_text
returns c =
    let text = rw c.in_ok-whole.ensures at c.in_ok-to_string.ensures.text in
    text (plan_has_none c.args.app.now)
