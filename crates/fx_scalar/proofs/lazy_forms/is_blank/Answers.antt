use Rattle.std.proofs.Common.{◌∙◌}
use Rattle.fx_scalar.proofs.TextLemmas.{blank_by_bytes}
use Rattle.fx_scalar.proofs.lazy_forms.is_blank.Goals as goal

pub returns-in-Text : goal.returns-in-Text
returns-in-Text c = rw c.in-Text.is (c.is_empty.ensures ∙ blank_by_bytes _ _ c.as_str.ensures.bytes)
