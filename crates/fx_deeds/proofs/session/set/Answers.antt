use Rattle.std.proofs.Common.{refl}
use Rattle.fx_base.specs.Silence.{SilenceCause}
use Rattle.fx_types.specs.Values.{boolean}
use Rattle.fx_types.specs.ValueView.{view}
use Rattle.std.specs.Prelude.{true}
use Rattle.session_state.specs.declared.change.Change.TheVariants as change
use Rattle.fx_deeds.proofs.CutOff.{cut_by}
use Rattle.fx_deeds.specs.Deeds.{ChangeGives, Makes}
use Rattle.fx_deeds.proofs.session.set.Goals as goal

pub returns-clause-cut : goal.returns-clause-cut
returns-clause-cut g c =
    cut_by c.make.result (SilenceCause (g.W.Env.marks c.args.world.now) (g.W.Env.marks c.make.new.world)) (λ s n x t. Makes (change.Global c.args.variable c.args.value) (boolean true) s x t) (λ s n x t. ChangeGives (change.Global c.args.variable) (view c.args.value) (boolean true) s x t) (g.W.World.state c.args.world.now) (g.W.World.state c.make.new.world)
    (λ s n d t h. (c.args.value, refl, h)) c.make.ensures.cut
