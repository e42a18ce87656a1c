use Rattle.fx_deeds.proofs.CutOff.{Carries, CutSet}
use Rattle.std.proofs.Common.{length, map}
use Rattle.fx_base.specs.Silence.{MayFallSilent, SilenceCause}
use Rattle.fx_types.specs.ValueView.{view}
use Rattle.fx_core.specs.declared.sources.Source.{Source}
use Rattle.fx_deeds.specs.Deeds.{UpdatesContext}
use Rattle.fx_deeds.specs.Fitting.{CanTakeAll}
use Rattle.fx_deeds.specs.RemainingRows.{RestDecides}
use Rattle.fx_deeds.specs.StagesOver.{Attempt}
use Rattle.fx_deeds.specs.Within.{IsAmong}
use Rattle.fx_deeds.specs.Writable.{IsOneOf}
use Rattle.fx_deeds.proofs.session.set_all.Given as goal

abbrev pub invariant-loop-value : goal.invariant-loop-value
invariant-loop-value g l = record {
  attempt : Attempt g.W.Env g.W.World l.fn.world l.world (IsOneOf l.variables);
  allowed : (x : Source) → IsAmong x l.names → IsAmong x l.variables;
  can : CanTakeAll (g.W.Env.fixed l.fn.world).types l.names (map view l.rest);
  done : MayFallSilent (SilenceCause (g.W.Env.marks l.fn.world) (g.W.Env.marks l.world)) (RestDecides (UpdatesContext l.names (map view l.rest)) (UpdatesContext l.variables (map view l.values))) (g.W.World.state l.fn.world) (g.W.World.state l.world);
  cut : MayFallSilent (SilenceCause (g.W.Env.marks l.fn.world) (g.W.Env.marks l.world)) (Carries (CutSet l.names (map view l.rest)) (CutSet l.variables (map view l.values))) (g.W.World.state l.fn.world) (g.W.World.state l.world);
}

abbrev pub decreases-loop-value : goal.decreases-loop-value
decreases-loop-value g l = length l.rest
