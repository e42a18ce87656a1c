use Rattle.std.proofs.Common.{◌≡◌, ◌-◌, ◌+◌, ◌<◌, ℕ, List, ap, arith, get_or, length, subst, sym}
use Rattle.recalc.proofs.Marking.{IsClosedFrom, closed_down, closed_end, closed_start}
use Rattle.recalc.proofs.dirty_cells.mark_needed.Goals as goal

pub loop-place-init : goal.loop-place-init
loop-place-init c = subst (λ (xs : List ℕ). IsClosedFrom c.args.app.now c.args.cache.now c.args.marks.now (length xs) c.args.marks.now) (sym c.as_slice-order.ensures) (closed_start c.args.app.now c.args.cache.now c.args.marks.now)

pub loop-place-preserved : goal.loop-place-preserved
loop-place-preserved c =
    let p : ℕ = c.loop-place.place - 1 in
    let within = c.loop-place.invariant.within in
    let some = c.loop-place-test.true in
    let same : c.loop-place.place ≡ p + 1 = omega (arith, some) in
    let low : p < length c.args.app.now.order = omega (arith, within, some) in
    closed_down c.args.app.now c.args.cache.now c.args.marks.now p (get_or c.as_slice-order.result.now p 0) c.loop-place.marks c.visit.new.marks c.requires.sound low (ap (λ (xs : List ℕ). get_or xs p 0) (sym c.as_slice-order.ensures))
    (subst (λ q. IsClosedFrom c.args.app.now c.args.cache.now c.args.marks.now q c.loop-place.marks) same c.loop-place.invariant) c.visit.ensures

pub returns : goal.returns
returns c = closed_end c.args.app.now c.args.cache.now c.args.marks.now c.loop-place.marks c.loop-place.place c.requires.sound (omega arith) c.requires.long c.loop-place.invariant
