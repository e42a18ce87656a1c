use Rattle.app_semantics.proofs.Freshness.{fresh_fits}
use Rattle.app_semantics.proofs.laws.fresh_fits.Goals as goal

pub returns : goal.returns
returns c = fresh_fits
