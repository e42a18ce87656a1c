use Rattle.app_loader.proofs.OneVerdict.{one_app}
use Rattle.app_loader.proofs.verdicts.one_app.Goals as goal

pub returns : goal.returns
returns c = one_app c.one_reading.ensures
