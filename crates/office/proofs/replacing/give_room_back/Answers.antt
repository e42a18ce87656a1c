use Rattle.office.proofs.Writing.{unroomed}
use Rattle.office.proofs.replacing.give_room_back.Goals as goal

pub returns : goal.returns
returns c = unroomed c.args.sessions.now.len c.args.sessions.now.items c.deref_mut.result.now c.drop_room.new.sessions c.args.sessions.now.ok.0 c.deref_mut.ensures.value c.drop_room.ensures
