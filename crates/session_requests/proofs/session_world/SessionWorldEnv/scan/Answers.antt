use Rattle.fx_base.specs.Silence.{SilenceCause}
use Rattle.session_requests.proofs.Caches.{right_stays}
use Rattle.session_requests.proofs.Readying.{sound_stays}
use Rattle.session_requests.proofs.session_world.SessionWorldEnv.scan.Goals as goal

pub invariant_of-self-clause-right : goal.invariant_of-self-clause-right
invariant_of-self-clause-right g c =
    let w = c.args.self.now in
    right_stays (SilenceCause (g.K.Keeper.marks w.keeper.now) (g.K.Keeper.marks c.scan.new.keeper)) (g.A.SoundApp.app w.app.now) w.session.now w.moment w.cache.now (g.K.Keeper.told w.keeper.now) (g.K.Keeper.told c.scan.new.keeper) c.scan.ensures.told w.right

pub invariant_of-self-clause-sound : goal.invariant_of-self-clause-sound
invariant_of-self-clause-sound g c =
    let w = c.args.self.now in
    sound_stays (SilenceCause (g.K.Keeper.marks w.keeper.now) (g.K.Keeper.marks c.scan.new.keeper)) (g.A.SoundApp.app w.app.now).names.schema (g.K.Keeper.told w.keeper.now) (g.K.Keeper.told c.scan.new.keeper) c.scan.ensures.told w.sound
