use Rattle.std.proofs.lemmas.Result.{IfOk-weaker}
use Rattle.fx_types.specs.ValueView.{view}
use Rattle.fx_deeds.proofs.Told.{state_stays}
use Rattle.fx_behave.proofs.Purely.{can_take, reads_tables, take_ready, taken_done}
use Rattle.fx_deeds.proofs.Attempts.{look, look_none, look_on}
use Rattle.fx_behave.proofs.perform.evaluate.Goals as goal

pub eval-requires : goal.eval-requires
eval-requires g c =
    let w = c.args.world.now in
    let fixed = g.W.Env.fixed w in
    can_take c.limited_types.ensures fixed _ c.args.scope.now c.args.core.now _ c.ready.ensures.fixed c.in_ok-taking.ensures (reads_tables fixed (g.W.World.names w) (g.met.W.World.typed w) (g.met.W.World.shaped w)) c.requires

pub returns-clause-done : goal.returns-clause-done
returns-clause-done g c =
    let old = c.args.world.now in
    let mid = c.ready.new.self in
    let new = c.eval.new.env in
    IfOk-weaker c.eval.result _ _
    (λ v k. taken_done g.W.World.gives (g.W.Env.fixed old) (g.W.Env.fixed mid) _ _ _ (g.W.Env.told mid) (g.W.Env.told new) (g.W.World.state old) (g.W.World.state mid) (g.W.World.state new) c.args.core.now _ c.args.scope.now (view v)
    (g.met.W.World.lost new) c.requires.1.quiet c.ready.ensures.fixed c.in_ok-taking.ensures c.ready.ensures.counts.0 c.eval.ensures.marks c.ready.ensures.stays c.in_ok-ready.ensures.ready
    (state_stays _ (g.W.Env.told mid) (g.W.Env.told new) _ _ (g.met.W.World.keeps mid new) (g.met.W.World.lost mid) (g.met.W.World.lost new) c.eval.ensures.told)
    c.eval.ensures.told k)
    c.eval.ensures.value

pub returns-clause-fits : goal.returns-clause-fits
returns-clause-fits g c =
    let w = c.args.world.now in
    let fixed = g.W.Env.fixed w in λ u r.
    c.eval.ensures.fits u
    (take_ready c.limited_types.ensures fixed _ c.args.scope.now c.args.core.now _ u c.ready.ensures.fixed c.in_ok-taking.ensures (reads_tables fixed (g.W.World.names w) (g.met.W.World.typed w) (g.met.W.World.shaped w)) r)

pub returns-in_err-taking-clause-look : goal.returns-in_err-taking-clause-look
returns-in_err-taking-clause-look g c = look_none _

pub returns-in_err-ready-clause-look : goal.returns-in_err-ready-clause-look
returns-in_err-ready-clause-look g c = look _ _ c.ready.ensures.fixed c.ready.ensures.stays c.ready.ensures.counts.0 c.ready.ensures.counts.1

pub returns-clause-look : goal.returns-clause-look
returns-clause-look g c =
    let old = c.ready.new.self in
    let new = c.eval.new.env in
    look_on _ _ _ (look _ _ c.ready.ensures.fixed c.ready.ensures.stays c.ready.ensures.counts.0 c.ready.ensures.counts.1)
    (look _ _ c.eval.ensures.fixed (state_stays _ (g.W.Env.told old) (g.W.Env.told new) _ _ (g.met.W.World.keeps old new) (g.met.W.World.lost old) (g.met.W.World.lost new) c.eval.ensures.told)
    c.eval.ensures.marks c.eval.ensures.visited)
