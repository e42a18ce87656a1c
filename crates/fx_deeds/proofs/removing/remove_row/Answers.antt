use Rattle.fx_deeds.proofs.Attempts.{attempt_none}
use Rattle.fx_deeds.proofs.removing.remove_row.Goals as goal

pub returns-in_err-id-clause-attempt : goal.returns-in_err-id-clause-attempt
returns-in_err-id-clause-attempt g c = attempt_none _ _

pub returns-in-Err-clause-attempt : goal.returns-in-Err-clause-attempt
returns-in-Err-clause-attempt g c = attempt_none _ _
