use Rattle.row_changes.proofs.ChangeLemmas.{overlay_parts}
use Rattle.row_changes.proofs.laws.parts_tell.Goals as goal

pub returns : goal.returns
returns c = overlay_parts
