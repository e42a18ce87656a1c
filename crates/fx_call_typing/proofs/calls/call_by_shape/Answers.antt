use Rattle.std.proofs.Common.{map, subst, sym}
use Rattle.fx_typing.specs.Calls.{called_by}
use Rattle.fx_typing.specs.Answers.{IsAnswerOf}
use Rattle.fx_typing.specs.TypedView.{typed}
use Rattle.fx_resolve.specs.MeaningView.{place_view}
use Rattle.fx_resolve.specs.PartView.{judged_part}
use Rattle.fx_resolve.specs.SettingView.{setting}
use Rattle.fx_call_typing.proofs.calls.call_by_shape.Goals as goal

pub returns-in-Act : goal.returns-in-Act
returns-in-Act c =
    λ ss. subst (λ f. IsAnswerOf typed (called_by (place_view c.args.at.now) (setting ss c.args.stand) f (map judged_part c.args.all.items)) c.act_or_lowest.result)
    (sym c.in-Act.is) (c.act_or_lowest.ensures ss)
