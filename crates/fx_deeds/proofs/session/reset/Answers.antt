use Rattle.std.proofs.Common.{◌≡◌, Option, Some, None, refl, sym, ◌∙◌}
use Rattle.std.specs.Prelude.{IsSome}
use Rattle.fx_types.specs.Types.{Shape, booleans}
use Rattle.fx_core.specs.declared.sources.Source.TheVariants as source
use Rattle.fx_deeds.proofs.session.reset.Goals as goal

there : (o : Option Shape) → IsSome o → (t : Shape) × (o ≡ Some t)
there (Some t) h = (t, refl)
there None h = absurd cc

pub make-requires : goal.make-requires
make-requires g c =
    let k = there ((g.W.Env.fixed c.args.world.now).types (source.Input c.args.control)) c.requires in
    (k.0, sym (g.met.W.World.typed c.args.world.now (source.Input c.args.control)) ∙ k.1, refl)

pub returns-clause-fits : goal.returns-clause-fits
returns-clause-fits g c = c.make.ensures.fits booleans refl
