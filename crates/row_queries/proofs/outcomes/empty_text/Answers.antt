use Rattle.std.proofs.Common.{◌∙◌}
use Rattle.std.proofs.lemmas.Result.{IfOk-weaker}
use Rattle.std.proofs.lemmas.Str.{chars-nil}
use Rattle.row_queries.proofs.outcomes.empty_text.Goals as goal

pub returns : goal.returns
returns c = IfOk-weaker c.of.result _ _ (λ t e. e ∙ chars-nil) c.of.ensures
