use Rattle.row_requests.proofs.Schemas.{removes_sound}
use Rattle.row_requests.proofs.changes.remove_row.Goals as goal

pub returns-in-Ok-true-clause-sound : goal.returns-in-Ok-true-clause-sound
returns-in-Ok-true-clause-sound g c =
    removes_sound c.args.schema.now _ c.args.table c.args.id c.in-Ok-true.field-0 c.requires.table _ _ c.requires.sound c.in-Ok-true.ensures.was
