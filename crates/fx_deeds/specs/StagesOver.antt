-- What a performing finds and leaves, by the ghost members of its world as arguments: those of an
-- environment, and its own.
use Rattle.fx_base.specs.Silence.{MayFallSilent, SilenceCause}
use Rattle.fx_env.specs.declared.environment.Env as env
use Rattle.fx_core.specs.declared.sources.Source.{Source}
use Rattle.fx_deeds.specs.WorldSteps as by_place
use Rattle.fx_deeds.specs.WorldSteps.{Stage, stage}
use Rattle.fx_deeds.specs.State.{WorldState}
use Rattle.fx_deeds.specs.declared.world.World as world

module _ {W : Type 0} (e : env.Ghosts W) (g : world.Ghosts W) where
  -- a world as a performing finds it
  abbrev pub staged : W → Stage g.App
  staged w = stage (e.fixed w) (g.state w) (e.marks w) (e.visited w)

  -- what has changed was written, and no source was but allowed ones
  abbrev pub Attempt : W → W → (Source → Type 0) → Type 0
  Attempt old new allowed = by_place.Attempt (staged old) (staged new) allowed

  -- the state was looked at, and nothing changed
  abbrev pub Look : W → W → Type 0
  Look old new = by_place.Look (staged old) (staged new)

  -- the state goes so, where it is told
  abbrev pub StateBecomes : W → W → (WorldState g.App → WorldState g.App → Type 0) → Type 0
  StateBecomes old new P = MayFallSilent (SilenceCause (e.marks old) (e.marks new)) P (g.state old)
      (g.state new)
