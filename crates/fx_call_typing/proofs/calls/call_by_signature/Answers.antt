use Rattle.std.proofs.Common.{◌≡◌, ◌∙◌, Err, ap, if◌then◌else◌, length, map, rules, true}
use Rattle.std.proofs.lemmas.List.{length-map}
use Rattle.fx_core.specs.Rows.{is_arity}
use Rattle.fx_typing.specs.Builds.{bounded}
use Rattle.fx_typing.specs.Calls.{called_by, called_with}
use Rattle.fx_typing.specs.TypedView.{typed}
use Rattle.fx_resolve.specs.MeaningView.{place_view}
use Rattle.fx_resolve.specs.PartView.{judged_part}
use Rattle.fx_resolve.specs.SettingView.{setting}
use Rattle.fx_node_typing.proofs.Exits.{as_same}
use Rattle.fx_call_typing.proofs.calls.call_by_signature.Goals as goal

pub returns : goal.returns
returns c =
    let p = place_view c.args.at.now in
    let qs = map judged_part c.args.all.items in
    let f = c.in-Some.signature in
    let t : is_arity f.least f.most (length c.args.all.items) ≡ true = search rules in
    let w : is_arity f.least f.most (length qs) ≡ true = ap (is_arity f.least f.most) (length-map c.args.all.items judged_part) ∙ t in
    λ ss. let r = bounded (called_by p (setting ss c.args.stand) f.shape qs) in
    as_same typed (called_with p (setting ss c.args.stand) c.args.signature qs) r c.call_within_limits.result
    (ap (λ o. called_with p (setting ss c.args.stand) o qs) c.in-Some.is ∙ ap (λ b. if b then r else Err 7) w) (c.call_within_limits.ensures ss)
