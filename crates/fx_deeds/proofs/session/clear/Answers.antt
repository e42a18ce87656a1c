use Rattle.std.proofs.Common.{refl, sym, ◌∙◌}
use Rattle.fx_types.specs.Types.{booleans, tables}
use Rattle.fx_core.specs.declared.sources.Source.TheVariants as source
use Rattle.fx_deeds.proofs.session.clear.Goals as goal

pub make-requires : goal.make-requires
make-requires g c = (tables c.requires.0, sym (g.met.W.World.typed c.args.world.now (source.Gathered c.args.collection)) ∙ c.requires.1, refl)

pub returns-clause-fits : goal.returns-clause-fits
returns-clause-fits g c = c.make.ensures.fits booleans refl
