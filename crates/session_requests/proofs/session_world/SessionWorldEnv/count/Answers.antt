use Rattle.fx_base.specs.Silence.{SilenceCause}
use Rattle.session_requests.proofs.Caches.{counted_stays, right_stays}
use Rattle.session_requests.proofs.Readying.{sound_stays}
use Rattle.session_requests.proofs.session_world.SessionWorldEnv.count.Goals as goal

pub invariant_of-self-clause-right : goal.invariant_of-self-clause-right
invariant_of-self-clause-right g c =
    let w = c.args.self.now in
    right_stays (SilenceCause (g.K.Keeper.marks w.keeper.now) (g.K.Keeper.marks c.count.new.self)) (g.A.SoundApp.app w.app.now) w.session.now w.moment w.cache.now (g.K.Keeper.told w.keeper.now) (g.K.Keeper.told c.count.new.self) (counted_stays (SilenceCause (g.K.Keeper.marks w.keeper.now) (g.K.Keeper.marks c.count.new.self)) c.args.query.now c.count.result (g.K.Keeper.told w.keeper.now) (g.K.Keeper.told c.count.new.self) c.count.ensures.number c.count.ensures.err) w.right

pub invariant_of-self-clause-sound : goal.invariant_of-self-clause-sound
invariant_of-self-clause-sound g c =
    let w = c.args.self.now in
    sound_stays (SilenceCause (g.K.Keeper.marks w.keeper.now) (g.K.Keeper.marks c.count.new.self)) (g.A.SoundApp.app w.app.now).names.schema (g.K.Keeper.told w.keeper.now) (g.K.Keeper.told c.count.new.self) (counted_stays (SilenceCause (g.K.Keeper.marks w.keeper.now) (g.K.Keeper.marks c.count.new.self)) c.args.query.now c.count.result (g.K.Keeper.told w.keeper.now) (g.K.Keeper.told c.count.new.self) c.count.ensures.number c.count.ensures.err) w.sound
