use Rattle.office.proofs.Repeats.{carries_sessions}
use Rattle.office.proofs.desk_edit_laws.carries_sessions.Goals as goal

pub returns : goal.returns
returns c = carries_sessions
