use Rattle.std.specs.Str.{chars}
use Rattle.std.proofs.lemmas.Result.{IfOk-weaker}
use Rattle.fx_types.specs.ValueView.{view}
use Rattle.fx_scalar.proofs.errors.error_of_fields.Goals as goal

pub returns : goal.returns
unfolding chars
returns c =
    let kind = rw c.in_ok-of.ensures at c.in_ok-kind.ensures in
    let message = rw c.in_ok-of-2.ensures at c.in_ok-message.ensures in
    IfOk-weaker c.error_of.result _ _ (λ v h. (view c.in_ok-kind.kind, view c.in_ok-message.message, kind, message, h)) c.error_of.ensures
