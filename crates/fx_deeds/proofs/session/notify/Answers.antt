use Rattle.fx_deeds.proofs.Attempts.{attempt_none}
use Rattle.fx_deeds.proofs.session.notify.Goals as goal

pub returns-in_err-words-clause-attempt : goal.returns-in_err-words-clause-attempt
returns-in_err-words-clause-attempt g c = attempt_none _ _

pub returns-in-Err-clause-attempt : goal.returns-in-Err-clause-attempt
returns-in-Err-clause-attempt g c = attempt_none _ _
