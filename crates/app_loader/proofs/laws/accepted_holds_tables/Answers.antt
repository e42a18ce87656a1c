use Rattle.app_loader.proofs.Tables.{accepted_tables}
use Rattle.app_loader.proofs.laws.accepted_holds_tables.Goals as goal

pub returns : goal.returns
returns c = accepted_tables
