use Rattle.std.proofs.Common.{◌≡◌, ap, map, ◌&&◌, subst, ◌∙◌}
use Rattle.std.specs.Prelude.{is_some}
use Rattle.fx_typing.specs.Breaks.{large_given}
use Rattle.fx_typing.specs.Calls.{acted_on_screen}
use Rattle.fx_typing.specs.Parts.{unless_rule}
use Rattle.fx_typing.specs.Answers.{IsAnswerOf}
use Rattle.fx_typing.specs.TypedView.{typed}
use Rattle.fx_resolve.specs.MeaningView.{place_view}
use Rattle.fx_resolve.specs.PartView.{judged_part}
use Rattle.fx_call_typing.proofs.calls.act_at.Goals as goal

pub returns : goal.returns
returns c =
    let p = place_view c.args.at.now in
    let qs = map judged_part c.args.all.items in
    let a = c.args.acting in
    let r = acted_on_screen p a qs in
    let large = c.is_large-large.ensures ∙ ap (λ l. is_some (large_given p.names p.screen a (map judged_part l)) && p.settled) c.as_slice.ensures.value in
    subst (λ b. IsAnswerOf typed (unless_rule b 13 r) c.unless.result) large (c.unless.ensures r c.act_on_screen-found.ensures)
