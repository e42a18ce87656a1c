use Rattle.std.proofs.Common.{◌∙◌, Ok, ap, sym}
use Rattle.std.proofs.lemmas.Str.{chars-nil}
use Rattle.fx_types.specs.Types.{texts}
use Rattle.fx_types.specs.Values.{text}
use Rattle.fx_core.specs.Term.{Term, const, nil, of}
use Rattle.fx_infer.proofs.admitting.no_pieces.Goals as goal

pub returns : goal.returns
returns c = sym (ap (λ (k : Term). Ok (k, texts)) (c.constant.ensures ∙ ap (λ x. of (const (text x)) nil) (c.in_ok-of.ensures ∙ chars-nil)))
