use Rattle.std.proofs.Common.{map}
use Rattle.std.proofs.lemmas.Result.{err_from_is_err_and}
use Rattle.fx_typing.specs.Builds as builds
use Rattle.fx_typing.specs.Calls.{called_by}
use Rattle.fx_typing.specs.TypedView.{typed}
use Rattle.fx_resolve.specs.MeaningView.{place_view}
use Rattle.fx_resolve.specs.PartView.{judged_part}
use Rattle.fx_resolve.specs.SettingView.{setting}
use Rattle.fx_node_typing.proofs.Exits.{first_stops}
use Rattle.fx_call_typing.proofs.calls.call_within_limits.Goals as goal

pub returns-in_err-made : goal.returns-in_err-made
returns-in_err-made c =
    let p = err_from_is_err_and c.from_residual.result c.from_residual.ensures.1 in
    λ ss. rw (p.1, p.2)
    (first_stops typed typed (called_by (place_view c.args.at.now) (setting ss c.args.stand) c.args.shape (map judged_part c.args.all.items)) builds.bounded_by
    c.in_err-made.field-0.0 (c.in_err-made.ensures ss))
