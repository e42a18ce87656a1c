use Rattle.row_queries.proofs.Texts.{has_part_by}
use Rattle.row_queries.proofs.outcomes.has_part.Goals as goal

pub returns : goal.returns
returns c = has_part_by _ _ _ c.in_ok-contains.ensures
