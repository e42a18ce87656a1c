use Rattle.std.proofs.Common.{◌∙◌, ap}
use Rattle.std.proofs.lemmas.Str.{chars-nil}
use Rattle.fx_types.specs.Values.{text}
use Rattle.fx_resolve.proofs.dots.no_text.Goals as goal

pub returns : goal.returns
returns c = ap text (c.in_ok-of.ensures ∙ chars-nil)
