use Rattle.std.proofs.Common.{◌<◌, ◌≤◌, length, arith, refl}
use Rattle.recalc.specs.Carrying.{IsCarried}
use Rattle.office.proofs.Places.{item_at}
use Rattle.office.proofs.Rounds.{so_far_all, so_far_here, so_far_more, so_far_none}
use Rattle.office.proofs.keeping.carry_all.Goals as goal

pub carry-requires-clause-was_in_order : goal.carry-requires-clause-was_in_order
carry-requires-clause-was_in_order c =
    let within : c.loop-at.at < length c.loop-at.caches.items = omega (arith, c.loop-at-test.true, c.len-at-end.ensures, c.args.caches.now.ok.0, c.loop-at.invariant.long) in
    let there = item_at c.loop-at.caches.items c.loop-at.at c.index_mut.result.now within c.index_mut.ensures.value in
    c.requires.order c.loop-at.at c.index_mut.result.now (so_far_here (λ k. IsCarried c.args.old.now c.args.new.now) c.loop-at.at c.args.caches.now.items c.loop-at.caches.items c.index_mut.result.now c.loop-at.invariant there)

pub carry-requires-clause-room : goal.carry-requires-clause-room
carry-requires-clause-room c =
    let within : c.loop-at.at < length c.loop-at.caches.items = omega (arith, c.loop-at-test.true, c.len-at-end.ensures, c.args.caches.now.ok.0, c.loop-at.invariant.long) in
    let there = item_at c.loop-at.caches.items c.loop-at.at c.index_mut.result.now within c.index_mut.ensures.value in
    c.requires.rooms c.loop-at.at c.index_mut.result.now (so_far_here (λ k. IsCarried c.args.old.now c.args.new.now) c.loop-at.at c.args.caches.now.items c.loop-at.caches.items c.index_mut.result.now c.loop-at.invariant there)

pub loop-at-init : goal.loop-at-init
loop-at-init c = so_far_none (λ k. IsCarried c.args.old.now c.args.new.now) c.args.caches.now.items

pub loop-at-preserved : goal.loop-at-preserved
loop-at-preserved c =
    let item = c.index_mut.result.now in
    let within : c.loop-at.at < length c.loop-at.caches.items = omega (arith, c.loop-at-test.true, c.len-at-end.ensures, c.args.caches.now.ok.0, c.loop-at.invariant.long) in
    let there = item_at c.loop-at.caches.items c.loop-at.at item within c.index_mut.ensures.value in
    so_far_more (λ k. IsCarried c.args.old.now c.args.new.now) c.loop-at.at c.args.caches.now.items c.loop-at.caches.items _ item (record { name = item.name; it = c.carry.new.self }) c.loop-at.invariant there refl
    c.carry.ensures refl

pub returns : goal.returns
returns c =
    let all : length c.args.caches.now.items ≤ c.loop-at.at = omega (arith, c.loop-at-test.false, c.len-at-end.ensures, c.args.caches.now.ok.0) in
    so_far_all (λ k. IsCarried c.args.old.now c.args.new.now) c.loop-at.at c.args.caches.now.items c.loop-at.caches.items all c.loop-at.invariant
