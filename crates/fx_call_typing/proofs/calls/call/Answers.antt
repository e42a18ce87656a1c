use Rattle.std.proofs.Common.{map, subst}
use Rattle.fx_typing.specs.Calls.{called_with}
use Rattle.fx_typing.specs.Answers.{IsAnswerOf}
use Rattle.fx_typing.specs.TypedView.{typed}
use Rattle.fx_resolve.specs.MeaningView.{place_view}
use Rattle.fx_resolve.specs.PartView.{judged_part}
use Rattle.fx_resolve.specs.SettingView.{setting}
use Rattle.fx_call_typing.proofs.calls.call.Goals as goal

pub returns : goal.returns
returns c =
    λ ss. subst (λ f. IsAnswerOf typed (called_with (place_view c.args.at.now) (setting ss c.args.stand) f (map judged_part c.args.all.items)) c.call_by_signature.result)
    c.signature_of-signature.ensures (c.call_by_signature.ensures ss)
