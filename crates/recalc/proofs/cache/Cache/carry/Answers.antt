use Rattle.std.proofs.Common.{◌≡◌, ◌<◌, ◌∙◌, ℕ, List, ap, arith, get_or, length, subst, sym}
use Rattle.recalc.proofs.Filling.{carried_is, filling_end, filling_start}
use Rattle.recalc.proofs.Marking.{contains_at}
use Rattle.recalc.specs.Filling.{IsFilling}
use Rattle.recalc.specs.Kept.{CacheState, stamp_of}
use Rattle.recalc.specs.Outcomes.{IsRestarted}
use Rattle.recalc.proofs.cache.Cache.carry.Goals as goal

pub restart-from-requires-clause-stamps : goal.restart-from-requires-clause-stamps
restart-from-requires-clause-stamps c = let room = c.requires.room.stamps in let long = c.len.ensures in omega (arith, room, long)

pub restart-from-requires-clause-values : goal.restart-from-requires-clause-values
restart-from-requires-clause-values c = let room = c.requires.room.values in let long = c.len.ensures in omega (arith, room, long)

pub loop-number-init : goal.loop-number-init
loop-number-init c = subst (λ (w : CacheState). IsFilling c.args.old.now c.args.new.now c.args.self.now w 0 c.restart-from.new.self) (sym c.restart-from.ensures.out)
    (filling_start c.args.old.now c.args.new.now c.args.self.now c.restart-from.new.self c.requires.was_in_order c.requires.room
    (subst (λ n. IsRestarted n c.args.self.now c.restart-from.new.self) c.len.ensures c.restart-from.ensures.new))

pub carry_next-requires-clause-was_in_order : goal.carry_next-requires-clause-was_in_order
carry_next-requires-clause-was_in_order c = c.loop-number.invariant.order

pub carry_next-requires-clause-there : goal.carry_next-requires-clause-there
carry_next-requires-clause-there c =
    subst (λ n. n < length c.args.new.now.cells) (ap (λ (xs : List ℕ). get_or xs c.loop-number.number-index 0) (sym c.as_slice-order.ensures))
    ((c.requires.sound.order.all (get_or c.args.new.now.order c.loop-number.number-index 0)).0
    (contains_at c.args.new.now.order c.loop-number.number-index (let low = c.loop-number-test.true in let e : length c.as_slice-order.result.now ≡ length c.args.new.now.order = ap length c.as_slice-order.ensures in omega (arith, low, e))))

pub carry_next-requires-clause-room : goal.carry_next-requires-clause-room
carry_next-requires-clause-room c = c.loop-number.invariant.stamps

pub carry_next-requires-clause-values : goal.carry_next-requires-clause-values
carry_next-requires-clause-values c = c.loop-number.invariant.values

pub carry_next-requires-clause-blank : goal.carry_next-requires-clause-blank
carry_next-requires-clause-blank c =
    ap (λ (xs : List ℕ). stamp_of c.loop-number.self (get_or xs c.loop-number.number-index 0)) c.as_slice-order.ensures
    ∙ c.loop-number.invariant.rest c.loop-number.number-index (omega arith) (let low = c.loop-number-test.true in let e : length c.as_slice-order.result.now ≡ length c.args.new.now.order = ap length c.as_slice-order.ensures in omega (arith, low, e))

pub loop-number-preserved : goal.loop-number-preserved
loop-number-preserved c =
    c.carry_next.ensures c.args.self.now c.loop-number.number-index
    (let low = c.loop-number-test.true in let e : length c.as_slice-order.result.now ≡ length c.args.new.now.order = ap length c.as_slice-order.ensures in omega (arith, low, e))
    (ap (λ (xs : List ℕ). get_or xs c.loop-number.number-index 0) (sym c.as_slice-order.ensures)) c.loop-number.invariant

pub returns : goal.returns
returns c =
    carried_is c.args.old.now c.args.new.now c.args.self.now c.loop-number.self c.requires.was_sound c.requires.sound c.requires.edit c.requires.was_in_order c.loop-number.invariant.day
    (filling_end c.args.old.now c.args.new.now c.args.self.now c.loop-number.from c.loop-number.self c.loop-number.number-index c.requires.sound
    (let end = c.loop-number-test.false in let e : length c.as_slice-order.result.now ≡ length c.args.new.now.order = ap length c.as_slice-order.ensures in omega (arith, end, e)) c.loop-number.invariant)
