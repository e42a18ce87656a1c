use Rattle.std.proofs.Common.{map, arith}
use Rattle.fx_infer.specs.CellView.{cell}
use Rattle.fx_infer.proofs.After.{items_more}
use Rattle.fx_infer.proofs.next_round.items_types.Goals as goal

pub loop-number-preserved : goal.loop-number-preserved
loop-number-preserved c =
    items_more c.args.names.now (map cell c.args.cells.now) c.loop-number.number c.args.names.now.controls c.loop-number.types.items _ c.in_ok-items_type.field-0
    (omega (arith, c.loop-number-test.true, c.len-number-end.ensures)) c.in_ok-push.ensures.items c.in_ok-items_type.ensures c.loop-number.invariant
