use Rattle.std.proofs.Common.{◌≡◌, ap, map, not, subst, ◌∙◌}
use Rattle.fx_typing.specs.Breaks.{could_act}
use Rattle.fx_typing.specs.Calls.{acted_by}
use Rattle.fx_typing.specs.Parts.{unless_rule}
use Rattle.fx_typing.specs.Answers.{IsAnswerOf}
use Rattle.fx_typing.specs.TypedView.{typed}
use Rattle.fx_resolve.specs.MeaningView.{place_view}
use Rattle.fx_resolve.specs.PartView.{judged_part}
use Rattle.fx_call_typing.proofs.calls.act_or_lowest.Goals as goal

pub returns : goal.returns
returns c =
    let qs = map judged_part c.args.all.items in
    let a = c.args.acting in
    let r = acted_by (place_view c.args.at.now) a qs in
    let fits : c.in_ok-fits.fits ≡ could_act a qs = c.in_ok-fits.ensures ∙ ap (λ l. could_act a (map judged_part l)) c.as_slice.ensures.value in
    let one = subst (λ b. IsAnswerOf typed (unless_rule (not b) 6 r) c.unless-found.result) fits (c.unless-found.ensures r c.act_at-found.ensures) in
    λ ss. subst (λ b. IsAnswerOf typed (unless_rule (not b) 9 (unless_rule (not (could_act a qs)) 6 r)) c.unless.result) c.may_act.ensures
    (c.unless.ensures (unless_rule (not (could_act a qs)) 6 r) one)
