use Rattle.std.proofs.Common.{◌≡◌, Err, ap, inl, refl}
use Rattle.fx_base.specs.Silence.{SilenceCause}
use Rattle.fx_base.specs.Telling.{Stays}
use Rattle.fx_base.proofs.Silences.{goes_weaker}
use Rattle.row_keeper.specs.Changes.{StaysOrShapes}
use Rattle.row_keeper.specs.declared.keeper.KeeperEnd.{KeeperEnd}
use Rattle.row_keeper.specs.declared.keeper.KeeperEnd.TheVariants.{Failed}
use Rattle.fx_cli.specs.Opening.{Unsaid}
use Rattle.fx_cli.proofs.Opened.{asked_by, failed_by, stopped_by}
use Rattle.fx_cli.proofs.opening.open_keeper.Goals as goal

pub returns-in-Err-clause-stopped : goal.returns-in-Err-clause-stopped
returns-in-Err-clause-stopped g c =
    let old = c.args.keeper.now in
    let new = c.attach.new.self in
    record {
      between = old;
      schema = c.args.schema.now;
      begun = inl refl;
      tables = goes_weaker (SilenceCause (g.K.Keeper.marks old) (g.K.Keeper.marks new)) Stays (StaysOrShapes c.args.schema.now) (λ t u h. inl h) (g.K.Keeper.told old) (g.K.Keeper.told new) c.in-Err.ensures.err.0;
      later = c.attach.ensures.cause.later;
      rise = tt;
    }

pub returns-in-Err-clause-failed : goal.returns-in-Err-clause-failed
returns-in-Err-clause-failed g c = λ e.
    let old = c.args.keeper.now in
    let new = c.attach.new.self in
    let is : c.in-Err.end ≡ Failed = cc in
    record {
      between = old;
      schema = c.args.schema.now;
      begun = inl refl;
      tables = goes_weaker (SilenceCause (g.K.Keeper.marks old) (g.K.Keeper.marks new)) Stays (StaysOrShapes c.args.schema.now) (λ t u h. inl h) (g.K.Keeper.told old) (g.K.Keeper.told new) c.in-Err.ensures.err.0;
      later = c.attach.ensures.cause.later;
      rise = c.in-Err.ensures.cause.failed (ap (λ (k : KeeperEnd). Err k) is);
    }

pub returns-in-Ok-clause-asked : goal.returns-in-Ok-clause-asked
returns-in-Ok-clause-asked g c =
    asked_by g.K.Keeper c.args.name.now c.shape.result c.args.schema.now c.args.keeper.now c.attach.new.self c.shape.new.self
    (record { named = c.in-Ok.ensures.attached; promised = c.in-Ok.ensures.promised; later = c.attach.ensures.cause.later })
    c.shape.ensures.tables c.shape.ensures.another c.shape.ensures.shaped c.shape.ensures.unshaped c.shape.ensures.attached c.shape.ensures.cause.later

pub returns-in-Ok-clause-stopped : goal.returns-in-Ok-clause-stopped
returns-in-Ok-clause-stopped g c =
    stopped_by g.K.Keeper c.args.name.now c.shape.result Unsaid c.args.schema.now c.args.keeper.now c.attach.new.self c.shape.new.self
    (record { named = c.in-Ok.ensures.attached; promised = c.in-Ok.ensures.promised; later = c.attach.ensures.cause.later }) c.shape.ensures.err c.shape.ensures.cause.later tt

pub returns-in-Ok-clause-failed : goal.returns-in-Ok-clause-failed
returns-in-Ok-clause-failed g c =
    failed_by g.K.Keeper c.args.name.now c.shape.result c.args.schema.now c.args.keeper.now c.attach.new.self c.shape.new.self
    (record { named = c.in-Ok.ensures.attached; promised = c.in-Ok.ensures.promised; later = c.attach.ensures.cause.later }) c.shape.ensures.err c.shape.ensures.cause
