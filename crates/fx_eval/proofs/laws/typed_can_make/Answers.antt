use Rattle.fx_eval.proofs.Whole.{can_over}
use Rattle.fx_eval.proofs.laws.typed_can_make.Goals as goal

pub returns : goal.returns
returns c = λ d told rows item caught f t ts u w n x gs fit i l p q. can_over d told rows item caught fit i f t ts u w l n x gs p q
