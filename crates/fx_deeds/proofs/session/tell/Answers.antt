use Rattle.std.proofs.Common.{refl}
use Rattle.fx_types.specs.Types.{booleans}
use Rattle.fx_deeds.proofs.session.tell.Goals as goal

pub returns-clause-fits : goal.returns-clause-fits
returns-clause-fits g c = c.make.ensures.fits booleans refl
