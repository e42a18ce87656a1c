use Rattle.std.proofs.Common.{ap, sym}
use Rattle.fx_types.specs.TypeView.{shape}
use Rattle.fx_typing.specs.Deeds.{given_variable, rows_collected}
use Rattle.fx_typing.specs.TypedView.{typed}
use Rattle.fx_node_typing.proofs.Exits.{as_same}
use Rattle.fx_call_typing.proofs.gathering.give_rows.Goals as goal

pub returns : goal.returns
returns c =
    let t = shape c.args.ty.now in
    as_same typed (given_variable t (rows_collected (typed c.args.value))) (given_variable t (typed c.in_ok-rows.rows)) c.give.result (ap (given_variable t) (sym c.in_ok-rows.ensures)) c.give.ensures
