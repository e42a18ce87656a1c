use Rattle.std.proofs.Common.{◌∷◌, [], length, map}
use Rattle.fx_base.specs.Silence.{MayFallSilent, SilenceCause}
use Rattle.fx_types.specs.ValueView.{view}
use Rattle.fx_core.specs.declared.sources.Source.TheVariants as source
use Rattle.fx_deeds.proofs.CutOff.{Carries, CutRemoved}
use Rattle.fx_deeds.specs.Deeds.{AreRemoved}
use Rattle.fx_deeds.specs.RemainingRows.{RestDecides}
use Rattle.fx_deeds.specs.StagesOver.{Attempt}
use Rattle.fx_deeds.specs.Writable.{IsOneOf}
use Rattle.fx_deeds.proofs.removing.remove_rows.Given as goal

abbrev pub invariant-loop-row : goal.invariant-loop-row
invariant-loop-row g l = record {
  attempt : Attempt g.W.Env g.W.World l.fn.world l.world (IsOneOf (source.Table l.table ∷ []));
  done : MayFallSilent (SilenceCause (g.W.Env.marks l.fn.world) (g.W.Env.marks l.world)) (RestDecides (AreRemoved l.table (map view l.rest)) (AreRemoved l.table (map view l.rows))) (g.W.World.state l.fn.world) (g.W.World.state l.world);
  cut : MayFallSilent (SilenceCause (g.W.Env.marks l.fn.world) (g.W.Env.marks l.world)) (Carries (CutRemoved l.table (map view l.rest)) (CutRemoved l.table (map view l.rows))) (g.W.World.state l.fn.world) (g.W.World.state l.world);
}

abbrev pub decreases-loop-row : goal.decreases-loop-row
decreases-loop-row g l = length l.rest
