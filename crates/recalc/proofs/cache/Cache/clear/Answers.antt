use Rattle.std.proofs.Common.{◌≡◌, ℕ, List, ap, arith, get_or, length, sym}
use Rattle.recalc.proofs.Cleared.{cleared_is, marking_more, marking_start}
use Rattle.recalc.proofs.cache.Cache.clear.Goals as goal

pub loop-number-init : goal.loop-number-init
loop-number-init c = λ sound order room. marking_start c.args.app.now c.args.cell c.args.self.now order room

pub loop-number-preserved : goal.loop-number-preserved
loop-number-preserved c = λ sound order room.
    let e : length c.as_slice-order.result.now ≡ length c.args.app.now.order = ap length c.as_slice-order.ensures in
    marking_more c.args.app.now c.args.cell c.args.self.now c.loop-number.number-index _ c.loop-number.self c.mark_next.new.self sound order
    (let low = c.loop-number-test.true in omega (arith, low, e))
    (ap (λ (xs : List ℕ). get_or xs c.loop-number.number-index 0) (sym c.as_slice-order.ensures)) c.mark_next.ensures (c.loop-number.invariant sound order room)

pub returns : goal.returns
returns c = λ sound order room.
    let e : length c.as_slice-order.result.now ≡ length c.args.app.now.order = ap length c.as_slice-order.ensures in
    cleared_is c.args.app.now c.args.cell c.args.self.now c.loop-number.number-index c.loop-number.self c.drop_marks.new.self sound order
    (let end = c.loop-number-test.false in omega (arith, end, e)) (c.loop-number.invariant sound order room) c.drop_marks.ensures
