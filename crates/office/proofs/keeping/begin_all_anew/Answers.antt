use Rattle.std.proofs.Common.{◌<◌, ◌≤◌, length, arith, refl}
use Rattle.recalc.specs.Carrying.{IsBegunAnew}
use Rattle.office.proofs.Places.{item_at}
use Rattle.office.proofs.Rounds.{so_far_all, so_far_here, so_far_more, so_far_none}
use Rattle.office.proofs.keeping.begin_all_anew.Goals as goal

pub begin_anew-requires : goal.begin_anew-requires
begin_anew-requires c =
    let within : c.loop-at.at < length c.loop-at.caches.items = omega (arith, c.loop-at-test.true, c.len-at-end.ensures, c.args.caches.now.ok.0, c.loop-at.invariant.long) in
    let there = item_at c.loop-at.caches.items c.loop-at.at c.index_mut.result.now within c.index_mut.ensures.value in
    c.requires c.loop-at.at c.index_mut.result.now (so_far_here (λ k. IsBegunAnew c.args.app.now) c.loop-at.at c.args.caches.now.items c.loop-at.caches.items c.index_mut.result.now c.loop-at.invariant there)

pub loop-at-init : goal.loop-at-init
loop-at-init c = so_far_none (λ k. IsBegunAnew c.args.app.now) c.args.caches.now.items

pub loop-at-preserved : goal.loop-at-preserved
loop-at-preserved c =
    let item = c.index_mut.result.now in
    let within : c.loop-at.at < length c.loop-at.caches.items = omega (arith, c.loop-at-test.true, c.len-at-end.ensures, c.args.caches.now.ok.0, c.loop-at.invariant.long) in
    let there = item_at c.loop-at.caches.items c.loop-at.at item within c.index_mut.ensures.value in
    so_far_more (λ k. IsBegunAnew c.args.app.now) c.loop-at.at c.args.caches.now.items c.loop-at.caches.items _ item (record { name = item.name; it = c.begin_anew.new.self }) c.loop-at.invariant there refl
    c.begin_anew.ensures refl

pub returns : goal.returns
returns c =
    let all : length c.args.caches.now.items ≤ c.loop-at.at = omega (arith, c.loop-at-test.false, c.len-at-end.ensures, c.args.caches.now.ok.0) in
    so_far_all (λ k. IsBegunAnew c.args.app.now) c.loop-at.at c.args.caches.now.items c.loop-at.caches.items all c.loop-at.invariant
