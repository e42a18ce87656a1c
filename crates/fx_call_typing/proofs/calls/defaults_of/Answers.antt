use Rattle.std.proofs.Common.{Err, Ok, map}
use Rattle.std.proofs.lemmas.Result.{err_from_is_err_and}
use Rattle.fx_typing.specs.Builds.{blank_record}
use Rattle.fx_typing.specs.Calls.{defaults_of}
use Rattle.fx_typing.specs.Targets.{rows_named}
use Rattle.fx_typing.specs.TypedView.{typed}
use Rattle.fx_resolve.specs.PartView.{judged_part}
use Rattle.fx_call_typing.specs.Changes.{found_view}
use Rattle.fx_call_typing.proofs.RowSteps.{columns_stop}
use Rattle.fx_call_typing.proofs.Named.{name_goes}
use Rattle.fx_call_typing.proofs.calls.defaults_of.Goals as goal

pub returns-in_err-rows : goal.returns-in_err-rows
returns-in_err-rows c =
    let p = err_from_is_err_and c.from_residual-in_err-rows.result c.from_residual-in_err-rows.ensures.1 in
    let n = c.args.names.now in
    rw (p.1, p.2)
    (name_goes typed (map judged_part c.args.all.items) (c.in_ok-name.name, map judged_part c.in_ok-name.field-0-1.items) (defaults_of n) (Err c.in_err-rows.field-0.0) c.in_ok-name.ensures
    (columns_stop found_view typed (rows_named n c.in_ok-name.name) (λ cs. Ok (blank_record cs)) c.in_err-rows.field-0.0 c.in_err-rows.ensures))
