use Rattle.fx_base.specs.Silence.{SilenceCause}
use Rattle.fx_types.specs.ValueView.{view}
use Rattle.fx_deeds.proofs.Deeding.{goes_nowhere}
use Rattle.fx_deeds.proofs.Tabling.{base_there, no_base}
use Rattle.fx_deeds.specs.Deeds.{PatchesBase}
use Rattle.fx_deeds.proofs.CutRows.{cut_base}
use Rattle.fx_deeds.proofs.Attempts.{attempt_none}
use Rattle.fx_deeds.proofs.table_rows.patch_base.Goals as goal

pub returns-in-Rec-clause-done : goal.returns-in-Rec-clause-done
returns-in-Rec-clause-done g c = base_there c.patch_numbered.result (SilenceCause (g.W.Env.marks c.args.world.now) (g.W.Env.marks c.patch_numbered.new.world)) (g.W.World.state c.args.world.now) (g.W.World.state c.patch_numbered.new.world) c.args.shape.now c.args.table c.args.changes.now c.args.base.now _ c.in-Rec.is c.patch_numbered.ensures.done

pub returns-in_ok-error-in_default-clause-done : goal.returns-in_ok-error-in_default-clause-done
returns-in_ok-error-in_default-clause-done g c =
    let w = c.args.world.now in
    let x = view c.in_ok-error-in_default.field-0 in
    goes_nowhere (SilenceCause (g.W.Env.marks w) (g.W.Env.marks w)) (λ s t. PatchesBase c.args.shape.now c.args.table c.args.changes.now (view c.args.base.now) s x t) (g.W.World.state w)
    (λ s. no_base c.args.shape.now c.args.table c.args.changes.now c.args.base.now x s c.in_default.not-Rec c.in_ok-error-in_default.ensures)

pub returns-in_ok-error-in_default-clause-attempt : goal.returns-in_ok-error-in_default-clause-attempt
returns-in_ok-error-in_default-clause-attempt g c = attempt_none _ _

pub returns-in_err-error-in_default-clause-attempt : goal.returns-in_err-error-in_default-clause-attempt
returns-in_err-error-in_default-clause-attempt g c = attempt_none _ _

pub returns-in-Rec-clause-cut : goal.returns-in-Rec-clause-cut
returns-in-Rec-clause-cut g c = cut_base c.patch_numbered.result (SilenceCause (g.W.Env.marks c.args.world.now) (g.W.Env.marks c.patch_numbered.new.world)) (g.W.World.state c.args.world.now) (g.W.World.state c.patch_numbered.new.world) c.args.shape.now c.args.table c.args.changes.now c.args.base.now _ c.in-Rec.is c.patch_numbered.ensures.cut
