use Rattle.fx_deeds.proofs.Attempts.{attempt_none}
use Rattle.fx_deeds.proofs.collections.remove_equal.Goals as goal

pub returns-in_err-columns-clause-attempt : goal.returns-in_err-columns-clause-attempt
returns-in_err-columns-clause-attempt g c = attempt_none _ _
