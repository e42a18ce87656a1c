use Rattle.fx_base.specs.Silence.{SilenceCause}
use Rattle.fx_types.specs.ValueView.{view}
use Rattle.fx_deeds.proofs.CutOff.{cut_made, cut_staying, on_any}
use Rattle.fx_deeds.specs.Deeds.{Makes}
use Rattle.fx_deeds.proofs.changes.make.Goals as goal

pub returns-in_err-done-clause-cut : goal.returns-in_err-done-clause-cut
returns-in_err-done-clause-cut g c =
    on_any c.from_residual.result
    (cut_staying (SilenceCause (g.W.Env.marks c.args.world.now) (g.W.Env.marks c.change.new.world)) (λ s n x t. Makes c.args.wanted (view c.args.taken) s x t) (g.W.World.state c.args.world.now) (g.W.World.state c.change.new.world) c.in_err-done.ensures.stops)

pub returns-in_err-taken_or-clause-cut : goal.returns-in_err-taken_or-clause-cut
returns-in_err-taken_or-clause-cut g c =
    on_any c.from_residual-in_err-taken_or.result
    (cut_made (SilenceCause (g.W.Env.marks c.args.world.now) (g.W.Env.marks c.change.new.world)) c.args.wanted c.in_ok-done.done (view c.args.taken) (g.W.World.state c.args.world.now) (g.W.World.state c.change.new.world) c.in_ok-done.ensures.done)
