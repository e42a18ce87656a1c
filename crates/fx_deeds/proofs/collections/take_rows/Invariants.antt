use Rattle.std.proofs.Common.{◌∷◌, [], length, map}
use Rattle.fx_base.specs.Silence.{MayFallSilent, SilenceCause}
use Rattle.fx_types.specs.Types.{column_list}
use Rattle.fx_types.specs.ValueView.{view}
use Rattle.fx_core.specs.declared.sources.Source.TheVariants as source
use Rattle.fx_deeds.proofs.CutOff.{Carries, CutTaken}
use Rattle.fx_deeds.specs.Collections.{AreTaken}
use Rattle.fx_deeds.specs.RemainingRows.{RestDecides}
use Rattle.fx_deeds.specs.StagesOver.{Attempt}
use Rattle.fx_deeds.specs.Writable.{IsOneOf}
use Rattle.fx_deeds.proofs.collections.take_rows.Given as goal

abbrev pub invariant-loop-sought : goal.invariant-loop-sought
invariant-loop-sought g l = record {
  attempt : Attempt g.W.Env g.W.World l.fn.world l.world (IsOneOf (source.Gathered l.collection ∷ []));
  done : MayFallSilent (SilenceCause (g.W.Env.marks l.fn.world) (g.W.Env.marks l.world)) (RestDecides (AreTaken (column_list l.columns) l.collection (map view l.rest)) (AreTaken (column_list l.columns) l.collection (map view l.rows))) (g.W.World.state l.fn.world) (g.W.World.state l.world);
  cut : MayFallSilent (SilenceCause (g.W.Env.marks l.fn.world) (g.W.Env.marks l.world)) (Carries (CutTaken (column_list l.columns) l.collection (map view l.rest)) (CutTaken (column_list l.columns) l.collection (map view l.rows))) (g.W.World.state l.fn.world) (g.W.World.state l.world);
}

abbrev pub decreases-loop-sought : goal.decreases-loop-sought
decreases-loop-sought g l = length l.rest
