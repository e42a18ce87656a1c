use Rattle.fx_base.specs.Silence.{SilenceCause}
use Rattle.fx_types.specs.ValueView.{view}
use Rattle.fx_deeds.proofs.Tabling.{patches_row}
use Rattle.fx_deeds.proofs.CutOff.{cut_staying, on_any}
use Rattle.fx_deeds.proofs.CutRows.{cut_put}
use Rattle.fx_deeds.specs.Deeds.{PatchesRow}
use Rattle.fx_deeds.proofs.table_rows.patch_row.Goals as goal

pub returns-clause-done : goal.returns-clause-done
returns-clause-done g c =
    patches_row (SilenceCause (g.W.Env.marks c.args.world.now) (g.W.Env.marks c.put_changed.new.world)) (g.W.World.state c.args.world.now) (g.W.World.state c.put_changed.new.world) c.args.shape.now c.args.table c.args.id c.args.changes.now c.in_ok-patched.patched.cells c.in_ok-patched.patched.put (view c.in_ok-put_answer.field-0) c.in_ok-put_answer.ensures.answer c.in_ok-patched.ensures.done

pub returns-in_err-patched-clause-cut : goal.returns-in_err-patched-clause-cut
returns-in_err-patched-clause-cut g c =
    on_any c.from_residual.result (cut_staying (SilenceCause (g.W.Env.marks c.args.world.now) (g.W.Env.marks c.put_changed.new.world)) (λ s n x t. PatchesRow c.args.shape.now c.args.table c.args.changes.now c.args.id s x t) (g.W.World.state c.args.world.now) (g.W.World.state c.put_changed.new.world) c.in_err-patched.ensures.stops)

pub returns-in_err-put_answer-clause-cut : goal.returns-in_err-put_answer-clause-cut
returns-in_err-put_answer-clause-cut g c =
    on_any c.from_residual-in_err-put_answer.result
    (cut_put (SilenceCause (g.W.Env.marks c.args.world.now) (g.W.Env.marks c.put_changed.new.world)) c.args.shape.now c.args.table c.args.id c.args.changes.now c.in_ok-patched.patched.cells c.in_ok-patched.patched.put (g.W.World.state c.args.world.now) (g.W.World.state c.put_changed.new.world) c.in_ok-patched.ensures.done)
