use Rattle.std.proofs.Common.{length, ap, ◌∙◌}
use Rattle.std.proofs.lemmas.Iterator.{YieldsList-from_chars}
use Rattle.std.proofs.lemmas.Iterator.Consumers.{count_from_yields_List}
use Rattle.fx_primitives.proofs.text_parts.length.Goals as goal

pub returns : goal.returns
returns c =
    count_from_yields_List _ _ c.count.ensures.ran (YieldsList-from_chars c.as_str.result.now c.as_str.utf8 c.chars.ensures.rest) ∙ ap length c.as_str.ensures.scalars
