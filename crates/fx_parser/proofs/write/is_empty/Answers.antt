use Rattle.std.proofs.Common.{◌≡◌, ◌∙◌, sym, true}
use Rattle.fx_parser.proofs.Writing.{empty_is, empty_bytes, length_none, none_length}
use Rattle.fx_parser.proofs.write.is_empty.Goals as goal

pub returns : goal.returns
returns c = (
  λ t. let h : c.is_empty.result ≡ true = t in empty_is c.as_str.result.now c.args.words.now c.as_str.ensures.scalars (length_none c.as_str.result.now (sym c.is_empty.ensures ∙ h)),
  λ e. c.is_empty.ensures ∙ none_length c.as_str.result.now (empty_bytes c.as_str.result.now c.args.words.now c.as_str.ensures.bytes e),
)
