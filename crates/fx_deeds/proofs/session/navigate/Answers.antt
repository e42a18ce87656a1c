use Rattle.std.proofs.Common.{refl}
use Rattle.fx_types.specs.Types.{booleans}
use Rattle.fx_deeds.proofs.Attempts.{attempt_none}
use Rattle.fx_deeds.proofs.session.navigate.Goals as goal

pub returns-clause-fits : goal.returns-clause-fits
returns-clause-fits g c = c.make.ensures.fits booleans refl

pub returns-then-screen-len-clause-attempt : goal.returns-then-screen-len-clause-attempt
returns-then-screen-len-clause-attempt g c = attempt_none _ _
