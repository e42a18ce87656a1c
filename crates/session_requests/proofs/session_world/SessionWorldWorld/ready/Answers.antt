use Rattle.std.proofs.Common.{◌≡◌, ◌∙◌, [], Some, subst, sym}
use Rattle.std.proofs.Math.Logic.{∥∥₁_map}
use Rattle.std.specs.Prelude.{drop}
use Rattle.fx_base.specs.Silence.{SilenceCause}
use Rattle.fx_types.specs.ValueView.{view}
use Rattle.fx_core.specs.Reads.{sources_in}
use Rattle.recalc.specs.app_cells.declared.app.App.{App}
use Rattle.recalc.specs.app_semantics.Holding.{HoldsFitting}
use Rattle.recalc.specs.app_semantics.Sound.{IsSoundApp}
use Rattle.fx_types.specs.Values.{Data}
use Rattle.fx_scalar.specs.ScalarFunctions.{IsToday}
use Rattle.recalc.proofs.Leaving.{left_all, left_then}
use Rattle.recalc.specs.Changes.{StaysCleanExcept}
use Rattle.recalc.specs.Kept.{IsInOrder, cached_value}
use Rattle.recalc.specs.Outcomes.{IsRightOver}
use Rattle.session_requests.specs.WorldContext.{grounds}
use Rattle.session_requests.proofs.Caches.{day_of}
use Rattle.session_requests.proofs.Readying.{AreFreshBehind, ready_now, sound_stays}
use Rattle.session_requests.proofs.WorldTelling.{holding}
use Rattle.session_requests.proofs.session_world.SessionWorldWorld.ready.Goals as goal
use Rattle.row_keeper.specs.Shaped.{by}

pub refresh_behind-requires : goal.refresh_behind-requires
refresh_behind-requires g c =
    let w = c.args.self.now in
    let same = sym c.get-app.ensures in
    record {
      sound = subst (λ (a : App). IsSoundApp a) same c.is_sound.ensures;
      holds = subst (λ (a : App). HoldsFitting a.names w.session.now) same (holding (g.A.SoundApp.app w.app.now).names w.session.now w.fits);
      shaped = subst (λ (a : App). g.K.Keeper.shaped w.keeper.now ≡ by a.names.schema) same w.shaped;
      order = subst (λ (a : App). IsInOrder a w.cache.now) same w.order;
      day = day_of (g.A.SoundApp.app w.app.now) w.session.now w.moment w.cache.now.values.day w.dated;
    }

pub returns-in-Ok-clause-ready : goal.returns-in-Ok-clause-ready
returns-in-Ok-clause-ready g c =
    let w = c.args.self.now in
    let k = c.refresh_behind.new.keeper in
    ready_now (view w.day.now) (grounds (g.A.SoundApp.app w.app.now) w.moment (g.K.Keeper.began k)) w.session.now c.refresh_behind.new.cache.values.cells (drop w.earlier w.wrote.now.items) (sources_in c.args.core.now) (g.K.Keeper.told k) c.is_sound.ensures w.fits
    (sound_stays (SilenceCause (g.K.Keeper.marks w.keeper.now) (g.K.Keeper.marks k)) (g.A.SoundApp.app w.app.now).names.schema (g.K.Keeper.told w.keeper.now) (g.K.Keeper.told k) c.refresh_behind.ensures.read.told w.sound) w.today
    (∥∥₁_map w.right (λ r. subst (λ (a : App). AreFreshBehind a w.session.now (g.K.Keeper.told k) w.moment (cached_value c.refresh_behind.new.cache) (sources_in c.args.core.now)) c.get-app.ensures
    (c.in-Ok.ensures.fresh (subst (λ (a : App). IsRightOver a w.session.now (g.K.Keeper.told w.keeper.now) w.moment w.cache.now) (sym c.get-app.ensures) r))))

pub invariant_of-self-clause-order : goal.invariant_of-self-clause-order
invariant_of-self-clause-order g c = subst (λ (a : App). IsInOrder a c.refresh_behind.new.cache) c.get-app.ensures c.refresh_behind.ensures.order

pub invariant_of-self-clause-right : goal.invariant_of-self-clause-right
invariant_of-self-clause-right g c =
    let w = c.args.self.now in
    ∥∥₁_map w.right (λ r. subst (λ (a : App). IsRightOver a w.session.now (g.K.Keeper.told c.refresh_behind.new.keeper) w.moment c.refresh_behind.new.cache) c.get-app.ensures
    (c.refresh_behind.ensures.right (subst (λ (a : App). IsRightOver a w.session.now (g.K.Keeper.told w.keeper.now) w.moment w.cache.now) (sym c.get-app.ensures) r)))

pub invariant_of-self-clause-dated : goal.invariant_of-self-clause-dated
invariant_of-self-clause-dated g c =
    let w = c.args.self.now in
    subst (λ (d : Data). ∥ IsToday w.moment d ∥₁) (sym c.refresh_behind.ensures.day) w.dated

pub invariant_of-self-clause-sound : goal.invariant_of-self-clause-sound
invariant_of-self-clause-sound g c =
    let w = c.args.self.now in
    sound_stays (SilenceCause (g.K.Keeper.marks w.keeper.now) (g.K.Keeper.marks c.refresh_behind.new.keeper)) (g.A.SoundApp.app w.app.now).names.schema (g.K.Keeper.told w.keeper.now) (g.K.Keeper.told c.refresh_behind.new.keeper) c.refresh_behind.ensures.read.told w.sound

pub invariant_of-self-clause-shaped : goal.invariant_of-self-clause-shaped
invariant_of-self-clause-shaped g c = c.refresh_behind.ensures.read.shaped ∙ c.args.self.now.shaped

pub invariant_of-self-clause-begun : goal.invariant_of-self-clause-begun
invariant_of-self-clause-begun g c = c.refresh_behind.ensures.read.mode ∙ c.args.self.now.begun

pub invariant_of-self-clause-left : goal.invariant_of-self-clause-left
invariant_of-self-clause-left g c =
    let w = c.args.self.now in
    let app = g.A.SoundApp.app w.app.now in
    left_then app w.wrote.now.items g.S.Start.start w.cache.now c.refresh_behind.new.cache w.left
    (left_all app w.wrote.now.items w.cache.now c.refresh_behind.new.cache (subst (λ (a : App). StaysCleanExcept a [] w.cache.now c.refresh_behind.new.cache) c.get-app.ensures c.refresh_behind.ensures.but))
