use Rattle.row_lines.proofs.SchemaLemmas.{lawful_types, schemas_tell}
use Rattle.row_lines.proofs.laws.schemas_tell.Goals as goal

pub returns : goal.returns
returns c = record { told = schemas_tell; lawful = lawful_types }
