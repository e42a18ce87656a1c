use Rattle.std.proofs.lemmas.Result.{IfOk-weaker}
use Rattle.fx_scalar.proofs.texts.find.Goals as goal

pub returns : goal.returns
returns c = IfOk-weaker c.position.result _ _ (λ v h. (c.in_ok-find_place.field-0, c.in_ok-find_place.ensures, h)) c.position.ensures
