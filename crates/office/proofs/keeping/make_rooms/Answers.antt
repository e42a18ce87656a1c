use Rattle.std.proofs.Common.{◌<◌, ◌≤◌, length, arith, ap, refl}
use Rattle.recalc.specs.Kept.{CacheState}
use Rattle.office.proofs.GoingOver.{IsRoomMade, made_room, rooms_all, rooms_before, rooms_there}
use Rattle.office.proofs.Places.{item_at}
use Rattle.office.proofs.Rounds.{so_far_all, so_far_more, so_far_none}
use Rattle.office.proofs.keeping.make_rooms.Goals as goal

pub loop-at-init : goal.loop-at-init
loop-at-init c = so_far_none (IsRoomMade c.args.app.now) c.args.caches.now.items

pub loop-at-preserved : goal.loop-at-preserved
loop-at-preserved c =
    let item = c.index_mut.result.now in
    let within : c.loop-at.at < length c.loop-at.caches.items = omega (arith, c.loop-at-test.true, c.len-at-end.ensures, c.args.caches.now.ok.0, c.loop-at.invariant.long) in
    let there = item_at c.loop-at.caches.items c.loop-at.at item within c.index_mut.ensures.value in
    so_far_more (IsRoomMade c.args.app.now) c.loop-at.at c.args.caches.now.items c.loop-at.caches.items _ item (record { name = item.name; it = c.make_room.new.self }) c.loop-at.invariant there refl
    (made_room c.args.app.now c.loop-at.at item.it c.make_room.new.self c.in_ok-make_room.ensures.made) refl

pub returns-in_err-make_room-clause-rooms : goal.returns-in_err-make_room-clause-rooms
returns-in_err-make_room-clause-rooms c =
    let item = c.index_mut.result.now in
    let within : c.loop-at.at < length c.loop-at.caches.items = omega (arith, c.loop-at-test.true, c.len-at-end.ensures, c.args.caches.now.ok.0, c.loop-at.invariant.long) in
    let there = item_at c.loop-at.caches.items c.loop-at.at item within c.index_mut.ensures.value in
    rooms_before c.args.app.now c.loop-at.at c.args.caches.now.items c.loop-at.caches.items _ item (record { name = item.name; it = c.make_room.new.self }) c.loop-at.invariant there
    (ap (λ (k : CacheState). record { name = item.name; it = k }) c.in_err-make_room.ensures.stopped) refl

pub returns-clause-rooms : goal.returns-clause-rooms
returns-clause-rooms c =
    let all : length c.args.caches.now.items ≤ c.loop-at.at = omega (arith, c.loop-at-test.false, c.len-at-end.ensures, c.args.caches.now.ok.0) in
    rooms_all c.args.app.now c.args.caches.now.items c.loop-at.caches.items (so_far_all (IsRoomMade c.args.app.now) c.loop-at.at c.args.caches.now.items c.loop-at.caches.items all c.loop-at.invariant)

pub returns-clause-made : goal.returns-clause-made
returns-clause-made c =
    let all : length c.args.caches.now.items ≤ c.loop-at.at = omega (arith, c.loop-at-test.false, c.len-at-end.ensures, c.args.caches.now.ok.0) in
    rooms_there c.args.app.now c.args.caches.now.items c.loop-at.caches.items (so_far_all (IsRoomMade c.args.app.now) c.loop-at.at c.args.caches.now.items c.loop-at.caches.items all c.loop-at.invariant)
