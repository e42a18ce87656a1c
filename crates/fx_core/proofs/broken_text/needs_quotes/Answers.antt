use Rattle.std.proofs.Common.{◌∙◌, ap, rules, tests}
use Rattle.std.specs.List.{list_any}
use Rattle.std.proofs.lemmas.Iterator.{YieldsList-from_chars}
use Rattle.std.proofs.lemmas.Iterator.Search.{any_from_yields_List}
use Rattle.fx_core.specs.BrokenText.{has_mark}
use Rattle.fx_core.proofs.broken_text.needs_quotes.Goals as goal

pub returns : goal.returns
returns c =
    any_from_yields_List has_mark _ _ _ c.any.ensures.ran (YieldsList-from_chars c.as_str.result.now c.as_str.utf8 cc) (λ x b q k. search (rules, tests))
    ∙ ap (list_any has_mark) c.as_str.ensures.scalars
