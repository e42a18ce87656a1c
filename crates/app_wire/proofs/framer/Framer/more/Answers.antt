use Rattle.std.proofs.Common.{◌<◌, ◌∙◌, length, subst}
use Rattle.std.proofs.lemmas.Result.{err_from_is_err_and}
use Rattle.app_wire.proofs.Blanks.{front_byte}
use Rattle.app_wire.proofs.framer.Framer.more.Goals as goal

pub returns-in_err-path-in-Whole-clause-some : goal.returns-in_err-path-in-Whole-clause-some
returns-in_err-path-in-Whole-clause-some c =
    let p = err_from_is_err_and c.from_residual.result c.from_residual.ensures.1 in
    let head = c.in-Whole.ensures.head in
    rw p.1 (subst (λ bytes. 0 < length bytes) (c.deref.ensures.value ∙ c.self.view_is) (front_byte c.deref.result.now head.start head.front))
