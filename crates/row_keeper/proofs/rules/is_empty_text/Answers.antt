use Rattle.std.proofs.Common.{◌∙◌}
use Rattle.row_queries.proofs.Texts.{empty_by_bytes}
use Rattle.row_keeper.proofs.rules.is_empty_text.Goals as goal

pub returns : goal.returns
returns c = c.is_empty.ensures ∙ empty_by_bytes _ _ c.as_str.ensures.bytes
