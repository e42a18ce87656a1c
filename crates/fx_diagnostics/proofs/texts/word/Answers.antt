use Rattle.std.proofs.Common.{◌∙◌}
use Rattle.std.proofs.lemmas.Result.{IfOk-weaker}
use Rattle.std.proofs.lemmas.Str.{chars-IsAscii}
use Rattle.fx_diagnostics.proofs.texts.word.Goals as goal

pub returns : goal.returns
returns c = IfOk-weaker c.of.result _ _ (λ w e. e ∙ chars-IsAscii c.args.text.now c.requires) c.of.ensures
